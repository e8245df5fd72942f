-- Counting each value from its first sender on is enough to choose the most frequent one, and its count shows a quorum.
use Rattle.std.proofs.Common.{◌≡◌, ◌≢◌, ℕ, ◌+◌, ◌-◌, ◌*◌, ◌≤◌, ◌<◌, true, false, cond, Some, None, length, get_or, take, drop, fold, nat_lt}
use Rattle.std.proofs.Common.{Some, None, ap, ◌∙◌, inl, inr, arith}
use Rattle.std.proofs.lemmas.List.Sums.{fold_more, sum_by-take-drop}
use Rattle.std.specs.Bool.{then_some}
use Rattle.std.proofs.lemmas.List.{take_all, length-drop}
use Rattle.std.proofs.lemmas.Bool.{cases_eq, cases_Bool, ltb-true, ltb-false}
use Rattle.std.proofs.lemmas.Bool.Decides.{nat_tests}
use Rattle.lists.proofs.Options.{no_some}
use Rattle.lists.proofs.Counting.{found_by}
use Rattle.third_rule.specs.declared.Letter.{Letter}
use Rattle.third_rule.specs.Third.{Mailbox, says, occurs, before, better, most_frequent, quorum_value}
use Rattle.third_rule.proofs.Mailbox.{AsGood, folded_good, winner_most, quorum_is, quorum_occurs}

-- at sender i, whose letter has another value than the best so far: the count is of the senders from i on
module _ (m : Mailbox) (own i : ℕ) (l : Letter) (best most count : ℕ)
    (so_far : best ≡ fold (better m) own (take i m)) (often : most ≡ occurs best m)
    (here : i < length m) (there : get_or m i None ≡ Some l)
    (counts : count ≡ occurs l.value (take (length m - i) (drop i m))) (other : l.value ≢ best) where
  counted : occurs l.value (take i m) + count ≡ occurs l.value m
  counted =
      ap (λ c. occurs l.value (take i m) + c) (counts ∙ ap (occurs l.value) (take_all (length m - i) (drop i m) (omega (arith, length-drop i m)))) ∙
      sum_by-take-drop (λ o. cond (says l.value o) 1 0) m i

  -- a value that an earlier sender has was compared with its whole count
  compared : 0 < occurs l.value (take i m) → AsGood m l.value best
  compared h = let w = found_by (says l.value) None (take i m) h in rw so_far (folded_good m own l.value (take i m) w.0 w.2)

  onward : fold (better m) own (take (i + 1) m) ≡ cond (before (occurs l.value m) l.value most best) l.value best
  onward = rw (often, so_far) (fold_more (better m) own m i None here ∙ ap (better m (fold (better m) own (take i m))) there)

  -- where its count goes before, it is the whole count
  pub goes : before count l.value most best ≡ true → (l.value ≡ fold (better m) own (take (i + 1) m)) × (count ≡ occurs l.value m)
  goes h = elim (cases_eq (occurs l.value (take i m)) 0) [
    | inl new ↦ grind (arith, counted, onward)
    | inr known ↦ let good = compared (omega arith) in grind (arith, nat_tests, counted, good.as_often, good.tie)
  ]

  -- and where it does not, the whole count does not either
  pub stays : before count l.value most best ≡ false → best ≡ fold (better m) own (take (i + 1) m)
  stays h = elim (cases_eq (occurs l.value (take i m)) 0) [
    | inl new ↦ grind (arith, counted, onward)
    | inr known ↦ let good = compared (omega arith) in grind (arith, nat_tests, onward, good.as_often, good.tie)
  ]

-- the winner is the only value that can be a quorum's
pub winner_quorum : (n : ℕ) (m : Mailbox) (d best count : ℕ) → best ≡ most_frequent m d → count ≡ occurs best m → length m ≤ n →
    quorum_value n m ≡ then_some (nat_lt (2 * n) (3 * count)) best
winner_quorum n m d best count won often short =
    let no_more : (v : ℕ) → occurs v m ≤ occurs best m = λ v. rw won (winner_most m d v) in
    elim (cases_Bool (nat_lt (2 * n) (3 * count))) [
      | inl e ↦ rw e (quorum_is n m best short (rw (← often) (ltb-true _ _ e)))
      | inr e ↦ rw e (no_some (quorum_value n m) (λ v found. omega (arith, ltb-false _ _ e, often, no_more v, quorum_occurs n m m v found)))
    ]
