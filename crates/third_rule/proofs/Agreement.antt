-- In a lockstep run a value of more than two thirds of the stations stays, and a hull is such a value.
use Rattle.std.specs.Prelude.{◌≡◌, ℕ, zero, suc, ◌+◌, ◌*◌, ◌<◌, ◌≤◌, Bool, true, cond, not, ◌||◌, ◌⊎◌, List, length, is_some, Some, None, Option}
use Rattle.std.specs.Prelude.{◌==◌, nat_eq, nat_le, nat_lt, slice_index, refl}
use Rattle.std.proofs.Common.{◌∙◌}
use Rattle.std.proofs.Math.Logic.{inl, inr}
use native.Mathlib.Omega.{arith}
use Rattle.std.proofs.lemmas.Bool.{ltb-true, eqb-true, eq-eqb, cases_lt, cond_both}
use Rattle.lists.specs.Lists.{tabulate}
use Rattle.std.specs.Option.{option_or}
use Rattle.rules.specs.Rule.{Heard, lockstep, outside, Agreement, Validity}
use Rattle.third_rule.specs.declared.Letter.{Letter}
use Rattle.third_rule.specs.declared.State.{State}
use Rattle.third_rule.specs.Third.{third, says, heard, occurs, most_frequent, quorum_value, next_value}
use Rattle.lists.proofs.Options.{none_some}
use Rattle.lists.proofs.Counting.{count, overlap, no_fewer, witness, meet, count_by_tabulate}
use Rattle.third_rule.proofs.Mailbox.{winner_most, winner_heard, quorum_occurs}

-- what holds of the state and of a changed one holds of the next
pub by_next : (P : State → Type 0) (n p k : ℕ) (s : State) (m : List (Option Letter)) → P s →
    P (record { value = next_value n s.value m; hull = option_or s.hull (quorum_value n m) }) → P (third.next n p k s m)
by_next P n p k s m old new = cond_both (outside third.most n p k || not (length m == n)) s _ P (λ _. old) (λ _. new)

-- a place of a mailbox says what its sender's value is
said_is_value : (b c : Bool) (x v : ℕ) → says v (cond b (cond c None (Some (record { value = x }))) None) ≡ true → (x == v) ≡ true
said_is_value b c x v h = grind arith

value_is_said : (b c : Bool) (x v : ℕ) → is_some {T = Letter} (cond b (cond c None (Some (record { value = x }))) None) ≡ true → (x == v) ≡ true →
    says v (cond b (cond c None (Some (record { value = x }))) None) ≡ true
value_is_said b c x v h e = grind arith

first_came : (a b : Option ℕ) (v : ℕ) → option_or a b ≡ Some v → (a ≡ Some v) ⊎ (b ≡ Some v)
first_came (Some h) b v e = inl e
first_came None b v e = inr e

module _ (values : List ℕ) (H : Heard) where
  abbrev value_of : ℕ → ℕ → ℕ
  value_of k p = (lockstep third values H k p).value

  -- the letter that p has of q in round k
  abbrev place : ℕ → ℕ → ℕ → Option Letter
  place k p q = cond (H p k q) (third.letter (length values) q k (lockstep third values H k q) p) None

  abbrev mail : ℕ → ℕ → List (Option Letter)
  mail k p = tabulate (length values) (place k p)

  -- how many stations have the value v
  abbrev holders : ℕ → ℕ → ℕ
  holders k v = count (length values) (λ q. nat_eq (value_of k q) v)

  abbrev Locked : ℕ → ℕ → Type 0
  Locked k v = 2 * length values < 3 * holders k v

  place_said : (k p q v : ℕ) → says v (place k p q) ≡ true → (value_of k q == v) ≡ true
  place_said k p q v h = said_is_value (H p k q) (outside third.most (length values) q k || nat_le (length values) p) (value_of k q) v h

  occurs_holders : (k p v : ℕ) → occurs v (mail k p) ≤ holders k v
  occurs_holders k p v =
      let n = length values in
      let fewer = no_fewer n (λ q. says v (place k p q)) (λ q. nat_eq (value_of k q) v) (λ q _ h. place_said k p q v h) in
      omega (arith, count_by_tabulate (says v) n (place k p))

  -- a station that hears enough takes the value of more than two thirds
  takes : (k p v d : ℕ) → Locked k v → 2 * length values < 3 * heard (mail k p) → most_frequent (mail k p) d ≡ v
  takes k p v d lock enough =
      let n = length values in
      let m = mail k p in
      let w = most_frequent m d in
      let often = overlap n (λ q. is_some (place k p q)) (λ q. nat_eq (value_of k q) v) (λ q. says v (place k p q))
      (λ q _ f e. value_is_said (H p k q) (outside third.most n q k || nat_le n p) (value_of k q) v f e) in
      let both = meet n (λ q. says w (place k p q)) (λ q. nat_eq (value_of k q) v)
      (omega (
        arith,
        winner_most m d v,
        count_by_tabulate is_some n (place k p),
        count_by_tabulate (says v) n (place k p),
        count_by_tabulate (says w) n (place k p),
      )) in
      omega (arith, eqb-true _ _ (place_said k p both.0 w both.2), eqb-true _ _ both.3)

  keeps : (k p v : ℕ) → Locked k v → value_of k p ≡ v → value_of (suc k) p ≡ v
  unfolding lockstep
  keeps k p v lock e =
      let m = mail k p in
      let P : State → Type 0 = λ s. s.value ≡ v in
      by_next P (length values) p k (lockstep third values H k p) m e
      (cond_both (nat_lt (2 * length values) (3 * heard m)) (most_frequent m (value_of k p)) (value_of k p) (λ x. x ≡ v)
      (λ t. takes k p v (value_of k p) lock (ltb-true (2 * length values) (3 * heard m) t)) (λ _. e))

  locked_next : (k v : ℕ) → Locked k v → Locked (suc k) v
  locked_next k v lock =
      let n = length values in
      let fewer = no_fewer n (λ q. nat_eq (value_of k q) v) (λ q. nat_eq (value_of (suc k) q) v)
      (λ q _ h. eq-eqb (value_of (suc k) q) v (keeps k q v lock (eqb-true (value_of k q) v h))) in
      omega arith

  hull_came : (k p v : ℕ) → (lockstep third values H (suc k) p).hull ≡ Some v →
      ((lockstep third values H k p).hull ≡ Some v) ⊎ (quorum_value (length values) (mail k p) ≡ Some v)
  unfolding lockstep
  hull_came k p v =
      let s = lockstep third values H k p in
      let m = mail k p in
      let P : State → Type 0 = λ t. t.hull ≡ Some v → (s.hull ≡ Some v) ⊎ (quorum_value (length values) m ≡ Some v) in
      by_next P (length values) p k s m (λ h. inl h) (first_came s.hull (quorum_value (length values) m) v)

  hull_locked : (k p v : ℕ) → (lockstep third values H k p).hull ≡ Some v → Locked k v
  unfolding lockstep
  hull_locked zero p v h = none_some h
  hull_locked (suc k) p v h =
      locked_next k v (elim (hull_came k p v h) [
        | inl old ↦ hull_locked k p v old
        | inr q ↦ omega (arith, quorum_occurs (length values) (mail k p) (mail k p) v q, occurs_holders k p v)
      ])

  locked_later : (j k v : ℕ) → k ≤ j → Locked k v → Locked j v
  locked_later zero k v l lock = let e : k ≡ 0 = omega arith in rw e at lock
  locked_later (suc j) k v l lock = elim (cases_lt j k) [
    | inl above ↦ let e : k ≡ suc j = omega arith in rw e at lock
    | inr below ↦ locked_next j v (locked_later j k v below lock)
  ]

  locked_same : (k a b : ℕ) → Locked k a → Locked k b → a ≡ b
  locked_same k a b la lb =
      let both = meet (length values) (λ q. nat_eq (value_of k q) a) (λ q. nat_eq (value_of k q) b) (omega arith) in
      omega (arith, eqb-true _ _ both.2, eqb-true _ _ both.3)

  -- each value is an opening value
  origin : (k p : ℕ) → p < length values → (q : ℕ) × (q < length values) × (slice_index values q ≡ value_of k p)
  unfolding lockstep
  origin zero p l = (p, l, refl)
  origin (suc k) p l =
      let n = length values in
      let m = mail k p in
      let Old : ℕ → Type 0 = λ v. (q : ℕ) × (q < length values) × (slice_index values q ≡ v) in
      let P : State → Type 0 = λ s. Old s.value in
      by_next P n p k (lockstep third values H k p) m (origin k p l)
      (cond_both (nat_lt (2 * n) (3 * heard m)) (most_frequent m (value_of k p)) (value_of k p) Old
      (λ t.
      let w = most_frequent m (value_of k p) in
      let some : 0 < heard m = omega (arith, ltb-true (2 * n) (3 * heard m) t) in
      let x = witness n (λ q. nat_eq (value_of k q) w) (omega (arith, winner_heard m (value_of k p) some, occurs_holders k p w)) in
      let o = origin k x.0 x.1 in
      (o.0, o.1, o.2 ∙ eqb-true (value_of k x.0) w x.2))
      (λ _. origin k p l))

pub third_agreement : Agreement third
third_agreement values opening H p q i j a b _ _ ha hb =
    let la = hull_locked values H i p a ha in
    let lb = hull_locked values H j q b hb in
    locked_same values H (i + j) a b (locked_later values H (i + j) i a (omega arith) la) (locked_later values H (i + j) j b (omega arith) lb)

pub third_validity : Validity third
third_validity values opening H p i h _ shown =
    let n = length values in
    let x = witness n (λ q. nat_eq (value_of values H i q) h) (omega (arith, hull_locked values H i p h shown)) in
    let o = origin values H i x.0 x.1 in
    (o.0, o.1, o.2 ∙ eqb-true (value_of values H i x.0) h x.2)
