-- What the counts of a mailbox give: the winner is the value that occurs most often, the smallest of these in a tie, and
-- a quorum's value is the one that occurs often enough.
use Rattle.std.specs.Prelude.{◌≡◌, ℕ, zero, suc, ◌*◌, ◌<◌, ◌≤◌, true, cond, [], ◌∷◌, length, is_some, Some, None, fold, Option, nat_lt, slice_index_or, refl}
use Rattle.std.proofs.Common.{sym, ap, ◌∙◌, inl, inr, arith}
use Rattle.std.proofs.lemmas.List.Sums.{get_or-le-sum_by}
use Rattle.std.proofs.lemmas.Bool.{false≢true, ltb-true, eqb-true, eq-eqb, cond_both, cond-true, lt-ltb, cases_eq, cases_Bool}
use Rattle.std.proofs.lemmas.Bool.Decides.{nat_tests}
use Rattle.third_rule.specs.declared.Letter.{Letter}
use Rattle.lists.proofs.Options.{none_some, same_some}
use Rattle.lists.proofs.Counting.{meet, count_by_count, found_by}
use Rattle.third_rule.specs.Third.{Mailbox, says, heard, occurs, better, most_frequent, quorum_from, quorum_value}
use Rattle.third_rule.specs.Moves.{MostFrequent}

-- y occurs at least as often as x, and where as often is at most x
pub record AsGood (m : Mailbox) (x y : ℕ) : Type 0 where
  pub as_often : occurs x m ≤ occurs y m
  pub tie : occurs x m ≡ occurs y m → y ≤ x

good_trans : (m : Mailbox) (x y z : ℕ) → AsGood m x y → AsGood m y z → AsGood m x z
good_trans m x y z a b = omega arith

better_left : (m : Mailbox) (b : ℕ) (o : Option Letter) → AsGood m b (better m b o)
better_left m b None = omega arith
better_left m b (Some l) = grind (arith, nat_tests)

better_right : (m : Mailbox) (b : ℕ) (l : Letter) → AsGood m l.value (better m b (Some l))
better_right m b l = grind (arith, nat_tests)

folded_left : (m : Mailbox) (b : ℕ) (places : Mailbox) → AsGood m b (fold (better m) b places)
folded_left m b [] = omega arith
folded_left m b (o ∷ places) = good_trans m b (better m b o) _ (better_left m b o) (folded_left m (better m b o) places)

-- a value of the places is at most as good as what they make of the best so far
pub folded_good : (m : Mailbox) (b x : ℕ) (places : Mailbox) (q : ℕ) → says x (slice_index_or places q None) ≡ true → AsGood m x (fold (better m) b places)
folded_good m b x [] q h = absurd (false≢true h)
folded_good m b x (o ∷ places) (suc q) h = folded_good m (better m b o) x places q h
folded_good m b x (None ∷ places) zero h = absurd (false≢true h)
folded_good m b x (Some l ∷ places) zero h =
    rw (← (eqb-true l.value x h)) (good_trans m l.value (better m b (Some l)) _ (better_right m b l) (folded_left m (better m b (Some l)) places))

-- each value that occurs is at most as good as the winner
pub winner_good : (m : Mailbox) (d x : ℕ) → 0 < occurs x m → AsGood m x (most_frequent m d)
winner_good m d x h = let w = found_by (says x) None m h in folded_good m d x m w.0 w.2

pub winner_most : (m : Mailbox) (d x : ℕ) → occurs x m ≤ occurs (most_frequent m d) m
winner_most m d x = elim (cases_eq (occurs x m) 0) [
  | inl e ↦ omega arith
  | inr some ↦ (winner_good m d x (omega arith)).as_often
]

speaks : (o : Option Letter) → is_some o ≡ true → (x : ℕ) × (says x o ≡ true)
speaks None h = absurd (false≢true h)
speaks (Some l) h = (l.value, eq-eqb l.value l.value refl)

said_occurs : (m : Mailbox) (x q : ℕ) → q < length m → says x (slice_index_or m q None) ≡ true → 0 < occurs x m
said_occurs m x q l h =
    let once : cond (says x (slice_index_or m q None)) 1 0 ≤ occurs x m = get_or-le-sum_by (λ o. cond (says x o) 1 0) m q None l in
    rw h at once

-- with a letter there, the winner is a letter's value
pub winner_heard : (m : Mailbox) (d : ℕ) → 0 < heard m → 0 < occurs (most_frequent m d) m
winner_heard m d h =
    let w = found_by is_some None m h in
    let s = speaks (slice_index_or m w.0 None) w.2 in
    omega (arith, said_occurs m s.0 w.0 w.1 s.1, winner_most m d s.0)

-- with a letter there, the winner is the most frequent value, the smallest of these in a tie
pub winner : (m : Mailbox) (d : ℕ) → 0 < heard m → MostFrequent m (most_frequent m d)
winner m d h =
    let there : 0 < occurs (most_frequent m d) m = winner_heard m d h in
    record {
      there = there;
      none_more = winner_most m d;
      smallest = λ x e. (winner_good m d x (omega arith)).tie e;
    }

pub quorum_occurs : (n : ℕ) (m places : Mailbox) (v : ℕ) → quorum_from n m places ≡ Some v → 2 * n < 3 * occurs v m
quorum_occurs n m [] v h = none_some h
quorum_occurs n m (None ∷ places) v h = quorum_occurs n m places v h
quorum_occurs n m (Some l ∷ places) v h = elim (cases_Bool (nat_lt (2 * n) (3 * occurs l.value m))) [
  | inl e ↦ let same : l.value ≡ v = same_some (rw e at h) in rw (← same) (ltb-true _ _ e)
  | inr e ↦ quorum_occurs n m places v (rw e at h)
]

-- a value of the places that occurs often enough is found, or one before it
quorum_found : (n : ℕ) (m places : Mailbox) (v q : ℕ) → says v (slice_index_or places q None) ≡ true → 2 * n < 3 * occurs v m →
    (u : ℕ) × (quorum_from n m places ≡ Some u)
quorum_found n m [] v q h often = absurd (false≢true h)
quorum_found n m (None ∷ places) v zero h often = absurd (false≢true h)
quorum_found n m (None ∷ places) v (suc q) h often = quorum_found n m places v q h often
quorum_found n m (Some l ∷ places) v zero h often =
    let same : l.value ≡ v = eqb-true l.value v h in
    (l.value, cond-true (nat_lt (2 * n) (3 * occurs l.value m)) _ _ (lt-ltb (2 * n) (3 * occurs l.value m) (rw same often)))
quorum_found n m (Some l ∷ places) v (suc q) h often =
    cond_both (nat_lt (2 * n) (3 * occurs l.value m)) (Some l.value) (quorum_from n m places) (λ r. (u : ℕ) × (r ≡ Some u)) (λ _. (l.value, refl))
    (λ _. quorum_found n m places v q h often)

-- a letter has one value
says_one : (o : Option Letter) (u v : ℕ) → says u o ≡ true → says v o ≡ true → u ≡ v
says_one None u v a b = absurd (false≢true a)
says_one (Some l) u v a b = sym (eqb-true l.value u a) ∙ eqb-true l.value v b

-- the quorum's value is the value that occurs more than two thirds of n times
pub quorum_is : (n : ℕ) (m : Mailbox) (v : ℕ) → length m ≤ n → 2 * n < 3 * occurs v m → quorum_value n m ≡ Some v
quorum_is n m v short often =
    let w = found_by (says v) None m (omega arith) in
    let f = quorum_found n m m v w.0 w.2 often in
    let u = f.0 in
    let both = meet (length m) (λ q. says u (slice_index_or m q None)) (λ q. says v (slice_index_or m q None))
    (omega (arith, count_by_count (says u) None m, count_by_count (says v) None m, quorum_occurs n m m u f.1)) in
    f.1 ∙ ap (λ (x : ℕ). Some x) (says_one (slice_index_or m both.0 None) u v both.2 both.3)
