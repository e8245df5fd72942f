-- A round of OneThirdRule does what its law says.
use Rattle.std.proofs.Common.{◌≡◌, ℕ, ◌*◌, false, not, ◌||◌, eqb, length, arith}
use Rattle.std.proofs.lemmas.Bool.{lt-ltb, le-ltb, eq-eqb, cond-true, cond-false, or_from, not_from_true}
use Rattle.std.specs.Option.{option_or}
use Rattle.rules.specs.Rule.{outside}
use Rattle.third_rule.specs.declared.State.{State}
use Rattle.third_rule.specs.Third.{Mailbox, heard, most_frequent, quorum_value, next_value, third}
use Rattle.third_rule.specs.Moves.{Moves}
use Rattle.third_rule.proofs.Mailbox.{winner, quorum_is, quorum_occurs}

module _ (n : ℕ) (s : State) (m : Mailbox) (whole : length m ≡ n) where
  abbrev after : State
  after = record { value = next_value n s.value m; hull = option_or s.hull (quorum_value n m) }

  moved : Moves n s m after
  moved = record {
    takes = λ enough.
        rw (cond-true _ (most_frequent m s.value) s.value (lt-ltb (2 * n) (3 * heard m) enough)) (winner m s.value (omega arith));
    keeps = λ few. cond-false _ (most_frequent m s.value) s.value (le-ltb (2 * n) (3 * heard m) few);
    stays = λ h e. rw e;
    shows = λ v e often. rw e (quorum_is n m v (omega arith) often);
    only_shows = λ v e shown. quorum_occurs n m m v (rw e at shown);
  }

pub moves : (n p k : ℕ) (s : State) (m : Mailbox) (r : State) → r ≡ third.next n p k s m → outside third.most n p k ≡ false → length m ≡ n → Moves n s m r
moves n p k s m r e inside whole =
    rw (e, cond-false (outside third.most n p k || not (eqb (length m) n)) s (after n s m whole) (or_from _ _ inside (not_from_true _ (eq-eqb _ _ whole))))
    (moved n s m whole)
