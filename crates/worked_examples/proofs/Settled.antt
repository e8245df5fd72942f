-- What is told, and what lies in the buffers, after the example's steps are conducted.
use Rattle.std.specs.Prelude.{◌≡◌, List, [], ◌∷◌, replicate, Some, None, Ok, Err, Option, Result, refl}
use Rattle.std.proofs.Common.{arith, ap, ◌∙◌}
use Rattle.third_rule.specs.declared.State.{State}
use Rattle.third_rule.specs.declared.Letter.{Letter}
use Rattle.third_rule.specs.Third.{third}
use Rattle.protocol.specs.declared.refusal.Refusal.{Refusal}
use Rattle.protocol.specs.Calls.{open_refusal}
use Rattle.shed_core.specs.declared.shed.Shed.{Shed}
use Rattle.shed_core.specs.declared.buffers.Buffers.{Buffers}
use Rattle.conduct.specs.Conduct.{Conducted}
use Rattle.worked_examples.specs.Calls.{buffers, values, run, run_outcomes, book_words}
use Rattle.worked_examples.proofs.Computed.{a_run, last_cells}

pub record Settled (left : Buffers State Letter) (outcomes : List (Option Refusal)) : Type 0 where
  pub tells : outcomes ≡ run_outcomes
  pub states : left.states.now ≡ record { value = 7; hull = Some 7 } ∷ record { value = 7; hull = Some 7 } ∷ []
  pub book : left.book.now ≡ book_words

pub settled : (result : Result Shed Refusal) (left : Buffers State Letter) (outcomes : List (Option Refusal)) →
    Conducted third values run (buffers 8 6) (replicate 16 None) result left outcomes → Settled left outcomes
settled (Err why) left outcomes c = let opens : open_refusal third (buffers 8 6) values ≡ None = refl in absurd (grind (arith, opens, c.because))
settled (Ok s) left outcomes c = record {
  tells = rw (c.tells, a_run.refused) refl;
  states = ap (λ w. w.states) c.leaves ∙ last_cells;
  book = ap (λ w. w.book) c.leaves ∙ a_run.book;
}
