-- When an opening is refused nothing.
use Rattle.std.proofs.lemmas.Bool.Decides.{nat_tests}
use Rattle.std.proofs.Common.{◌≡◌, ℕ, ◌<◌, ◌≤◌, List, length, None, arith}
use Rattle.rules.specs.Rule.{Behaviour}
use Rattle.protocol.specs.declared.TheConstants.{MAX_POOL, MAX_BOOK}
use Rattle.protocol.specs.World.{World}
use Rattle.protocol.specs.Rows.{letter_cells}
use Rattle.protocol.specs.Calls.{open_refusal}

module _ {S L : Type 0} (R : Behaviour S L) where
  pub opens : (new : World S L) (values : List ℕ) → new.n ≡ 0 → 0 < length values → length values ≤ R.most → 0 < length new.pool → length new.pool ≤ MAX_POOL →
      length new.book ≤ MAX_BOOK → length values ≤ length new.states → letter_cells (length values) ≤ length new.letters → open_refusal R new values ≡ None
  opens new values shut some few pool pool-few book states letters = grind (arith, nat_tests, shut, some, few, pool, pool-few, book, states, letters)
