-- What a coordinator of LastVoting votes for, without a word on how it is computed.
use Rattle.std.specs.Prelude.{◌≡◌, ℕ, ◌*◌, ◌%◌, ◌<◌, ◌≤◌, false, length}
use Rattle.rules.specs.Rule.{outside}
use Rattle.last_rule.specs.declared.State.{State}
use Rattle.last_rule.specs.declared.Letter.{Letter}
use Rattle.last_rule.specs.Last.{last, Mailbox, At, stamped, heard, coordinator, committed_to}

-- l, of sender q, is the latest letter: it is there, no letter has a larger stamp, and none of a lower sender has as large a stamp
pub record Latest (m : Mailbox) (q : ℕ) (l : Letter) : Type 0 where
  pub there : At m q l
  pub largest : (p : ℕ) (k : Letter) → At m p k → stamped k.stamp ≤ stamped l.stamp
  pub lowest : (p : ℕ) (k : Letter) → p < q → At m p k → stamped k.stamp < stamped l.stamp

-- what a coordinator that collects votes for: the latest letter of its mailbox, if it hears more than half
abbrev pub VotesForLatest : (n station round : ℕ) → (before : State) → Mailbox → (after : State) → Type 0
VotesForLatest n p k s m after =
    outside last.most n p k ≡ false → length m ≡ n → k % 4 ≡ 0 → p ≡ coordinator n k → n < 2 * heard m →
    (q : ℕ) × (l : Letter) × Latest m q l × (after ≡ committed_to l.value s)
