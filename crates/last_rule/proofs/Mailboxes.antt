-- The latest letter of a mailbox: it is there, no letter has a larger stamp, and none of a lower sender has as large a
-- stamp.
use Rattle.std.specs.Prelude.{◌≡◌, ℕ, suc, ◌+◌, ◌-◌, ◌<◌, ◌≤◌, true, [], ◌∷◌, get_or, is_some, Some, None, Option, nat_lt, slice_index_or, refl}
use Rattle.std.proofs.Common.{sym, ap, subst, ◌∙◌, inl, inr, arith}
use Rattle.std.proofs.lemmas.Bool.{cond_both, ltb-true, ltb-false, cases_eq, cases_lt, false≢true}
use Rattle.lists.proofs.Options.{none_some, same_some}
use Rattle.lists.proofs.Counting.{found_by}
use Rattle.last_rule.specs.declared.Letter.{Letter}
use Rattle.last_rule.specs.Last.{stamped, Mailbox, At, heard, Signed, later, latest_from, latest}
use Rattle.last_rule.specs.Moves.{Latest}

-- a place that has a letter
pub letter_there : (o : Option Letter) → is_some o ≡ true → (l : Letter) × (o ≡ Some l)
letter_there None e = absurd (false≢true e)
letter_there (Some l) e = (l, refl)

-- sender q's letter l is the latest of the senders below i
record Upto (m : Mailbox) (i q : ℕ) (l : Letter) : Type 0 where
  seen : q < i
  there : At m q l
  largest : (p : ℕ) (k : Letter) → p < i → At m p k → stamped k.stamp ≤ stamped l.stamp
  lowest : (p : ℕ) (k : Letter) → p < q → At m p k → stamped k.stamp < stamped l.stamp

-- the best of the senders below i
abbrev Best : Mailbox → ℕ → Option Signed → Type 0
Best m i None = (p : ℕ) (k : Letter) → p < i → At m p k → ⊥
Best m i (Some b) = Upto m i b.0 b.1

-- what holds of the letters below i and of the one at i holds of those below i + 1
one_more : (m : Mailbox) (i : ℕ) (P : Letter → Type 0) → ((p : ℕ) (k : Letter) → p < i → At m p k → P k) → ((k : Letter) → At m i k → P k) →
    (p : ℕ) (k : Letter) → p < suc i → At m p k → P k
one_more m i P below here p k h a = elim (cases_eq p i) [
  | inl e ↦ here k (subst (λ j. At m j k) e a)
  | inr ne ↦ below p k (omega arith) a
]

-- the same where the letter l is at i
one_letter_more : (m : Mailbox) (i : ℕ) (l : Letter) (P : Letter → Type 0) → ((p : ℕ) (k : Letter) → p < i → At m p k → P k) → At m i l → P l →
    (p : ℕ) (k : Letter) → p < suc i → At m p k → P k
one_letter_more m i l P below e here = one_more m i P below (λ k a. subst P (same_some (sym e ∙ a)) here)

past_empty : (m : Mailbox) (i : ℕ) (best : Option Signed) → slice_index_or m i None ≡ None → Best m i best → Best m (suc i) best
past_empty m i None e h = one_more m i (λ _. ⊥) h (λ k a. none_some (sym e ∙ a))
past_empty m i (Some b) e h = record {
  seen = omega (arith, h.seen);
  there = h.there;
  largest = one_more m i _ h.largest (λ k a. none_some (sym e ∙ a));
  lowest = h.lowest;
}

past_letter : (m : Mailbox) (i : ℕ) (best : Option Signed) (l : Letter) → At m i l → Best m i best → Best m (suc i) (Some (later best (i, l)))
past_letter m i None l e h = record {
  seen = omega arith;
  there = e;
  largest = one_letter_more m i l _ (λ p k lt a. absurd (h p k lt a)) e (omega arith);
  lowest = λ p k lt a. absurd (h p k lt a);
}
past_letter m i (Some b) l e h =
    cond_both (nat_lt (stamped b.1.stamp) (stamped l.stamp)) (i, l) b (λ (r : Signed). Upto m (suc i) r.0 r.1)
    (λ t.
    let more : stamped b.1.stamp < stamped l.stamp = ltb-true _ _ t in
    record {
      seen = omega arith;
      there = e;
      largest = one_letter_more m i l _ (λ p k lt a. omega (arith, h.largest p k lt a)) e (omega arith);
      lowest = λ p k lt a. omega (arith, h.largest p k lt a);
    })
    (λ t.
    let less : stamped l.stamp ≤ stamped b.1.stamp = ltb-false _ _ t in
    record {
      seen = omega (arith, h.seen);
      there = h.there;
      largest = one_letter_more m i l _ h.largest e less;
      lowest = h.lowest;
    })

-- the best of all senders
abbrev Chosen : Mailbox → Option Signed → Type 0
Chosen m None = (p : ℕ) (k : Letter) → At m p k → ⊥
Chosen m (Some b) = Latest m b.0 b.1

-- `rest` is what stands in m from place i on
abbrev Rest : Mailbox → ℕ → Mailbox → Type 0
Rest m i rest = (j : ℕ) → slice_index_or rest j None ≡ slice_index_or m (i + j) None

below_end : (m : Mailbox) (i : ℕ) → Rest m i [] → (p : ℕ) (k : Letter) → At m p k → p < i
below_end m i end p k a = elim (cases_lt p i) [
  | inl lt ↦ lt
  | inr le ↦ let at : i + (p - i) ≡ p = omega arith in none_some (end (p - i) ∙ subst (λ j. At m j k) (sym at) a)
]

chosen_at_end : (m : Mailbox) (i : ℕ) (best : Option Signed) → Rest m i [] → Best m i best → Chosen m best
chosen_at_end m i None end h = λ p k a. h p k (below_end m i end p k a) a
chosen_at_end m i (Some b) end h = record {
  there = h.there;
  largest = λ p k a. h.largest p k (below_end m i end p k a) a;
  lowest = h.lowest;
}

here_is : (m : Mailbox) (i : ℕ) (o : Option Letter) (rest : Mailbox) → Rest m i (o ∷ rest) → slice_index_or m i None ≡ o
here_is m i o rest all = let e : i + 0 ≡ i = omega arith in sym (all 0 ∙ ap (λ j. get_or m j None) e)

rest_is : (m : Mailbox) (i : ℕ) (o : Option Letter) (rest : Mailbox) → Rest m i (o ∷ rest) → Rest m (suc i) rest
rest_is m i o rest all j = let e : i + suc j ≡ suc i + j = omega arith in all (suc j) ∙ ap (λ j. get_or m j None) e

chosen_from : (m rest : Mailbox) (i : ℕ) (best : Option Signed) → Rest m i rest → Best m i best → Chosen m (latest_from i best rest)
chosen_from m [] i best all h = chosen_at_end m i best all h
chosen_from m (None ∷ rest) i best all h = chosen_from m rest (suc i) best (rest_is m i None rest all) (past_empty m i best (here_is m i None rest all) h)
chosen_from m (Some l ∷ rest) i best all h =
    chosen_from m rest (suc i) (Some (later best (i, l))) (rest_is m i (Some l) rest all) (past_letter m i best l (here_is m i (Some l) rest all) h)

chosen : (m : Mailbox) → Chosen m (latest m)
chosen m = chosen_from m m 0 None (λ j. let e : 0 + j ≡ j = omega arith in rw e) (λ p k h a. omega arith)

-- a mailbox with a letter has a latest one
pub has_latest : (m : Mailbox) → 0 < heard m → (q : ℕ) × (l : Letter) × Latest m q l × (latest m ≡ Some (q, l))
has_latest m h = go (latest m) refl (chosen m)
  where
    go : (o : Option Signed) → latest m ≡ o → Chosen m o → (q : ℕ) × (l : Letter) × Latest m q l × (latest m ≡ Some (q, l))
    go None e none =
        let w = found_by is_some None m h in
        let l = letter_there (slice_index_or m w.0 None) w.2 in
        absurd (none w.0 l.0 l.1)
    go (Some b) e best = (b.0, b.1, best, e)
