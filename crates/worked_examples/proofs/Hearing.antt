-- What a round makes of a state by the number of letters that are heard, whatever they say.
use Rattle.std.specs.Prelude.{◌≡◌, ℕ, ◌≤◌, true, List, length, get_or, is_some, Some, None, Option, refl}
use Rattle.std.proofs.Common.{arith}
use Rattle.std.proofs.lemmas.Bool.{false≢true}
use Rattle.lists.proofs.Counting.{count_by_count, no_fewer}
use Rattle.third_rule.specs.declared.State.{State as ThirdState}
use Rattle.third_rule.specs.declared.Letter.{Letter as ThirdLetter}
use Rattle.third_rule.specs.Third.{third, says, occurs, quorum_value, heard as third_heard}
use Rattle.third_rule.proofs.Mailbox.{quorum_occurs}
use Rattle.last_rule.specs.declared.State.{State as LastState}
use Rattle.last_rule.specs.declared.Letter.{Letter as LastLetter}
use Rattle.last_rule.specs.Last.{last, heard as last_heard}
use Rattle.std.specs.Option.{option_or}
use Rattle.last_rule.proofs.Mailboxes.{has_latest}

-- ---- OneThirdRule
letter_said : (v : ℕ) (o : Option ThirdLetter) → says v o ≡ true → is_some o ≡ true
letter_said v None e = absurd (false≢true e)
letter_said v (Some l) e = refl

-- a value occurs at most as often as letters are heard
occurs_heard : (v : ℕ) (m : List (Option ThirdLetter)) → occurs v m ≤ third_heard m
occurs_heard v m =
    omega (
      arith,
      count_by_count (says v) None m,
      count_by_count is_some None m,
      no_fewer (length m) (λ q. says v (get_or m q None)) (λ q. is_some (get_or m q None)) (λ q _ h. letter_said v (get_or m q None) h),
    )

-- two of three are no quorum
no_quorum : (m : List (Option ThirdLetter)) → third_heard m ≡ 2 → quorum_value 3 m ≡ None
no_quorum m two = go (quorum_value 3 m) refl
  where
    go : (o : Option ℕ) → quorum_value 3 m ≡ o → quorum_value 3 m ≡ None
    go None e = e
    go (Some v) e = absurd (omega (arith, quorum_occurs 3 m m v e, occurs_heard v m, two))

hull_stays : (h : Option ℕ) → option_or h None ≡ h
hull_stays None = refl
hull_stays (Some v) = refl

pub any_two_of_three : (s : ThirdState) (m : List (Option ThirdLetter)) → length m ≡ 3 → third_heard m ≡ 2 → third.next 3 0 0 s m ≡ s
any_two_of_three s m whole two = rw (whole, two, no_quorum m two, hull_stays s.hull) refl

-- ---- LastVoting
pub any_three_of_four : (s : LastState) (m : List (Option LastLetter)) → length m ≡ 4 → last_heard m ≡ 3 → (last.next 4 0 0 s m).committed ≡ true
any_three_of_four s m whole three = let found = has_latest m (omega arith) in rw (whole, three, found.3) refl
