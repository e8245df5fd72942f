-- Who is in a set of stations that has one more, or is made by a test; that its members make it up; and how many they are.
use Rattle.std.proofs.Common.{◌≡◌, ℕ, zero, suc, ◌+◌, ◌-◌, ◌*◌, ◌/◌, ◌%◌, ◌^◌, ◌<◌, ◌≤◌, max, Bool, true, false, cond, ◌&&◌, ◌||◌, eqb, ltb, sym}
use Rattle.std.proofs.Common.{refl, ap, ◌∙◌, inl, inr, arith}
use Rattle.std.specs.Int.{bit_at}
use Rattle.std.specs.Int.RustNames.{bit_or}
use Rattle.std.specs.Int.Count.{ones}
use Rattle.std.proofs.lemmas.Nat.{pow_pos, pow_below, shr_split, mod_below, div_below, or_lt, ones_cat}
use Rattle.std.proofs.lemmas.Nat.Bits.{bit_at-zero, bit_at-lt, bit_at_or, bit_at-pow_same, bit_at-pow_other, same_from_bits_below, bit_at_cat_low}
use Rattle.std.proofs.lemmas.Nat.Bits.{bit_at_cat_high}
use Rattle.std.proofs.Math.Bool.{or-false}
use Rattle.std.proofs.lemmas.Bool.{lt-ltb, le-ltb, cases_lt, cases_eq, eq-eqb, ne_eqb, or_right, and_from, and_left}
use Rattle.stations.specs.declared.TheConstants.{STATIONS}
use Rattle.lists.proofs.Counting.{count, count_by_tabulate}
use Rattle.stations.specs.declared.StationSet.{StationSet}
use Rattle.stations.specs.Stations.{contains, none, with_station, bits_of, set_of, size, Within}

contains_at : (s : StationSet) (q : ℕ) → q < STATIONS → contains s q ≡ eqb (bit_at s.bits (15 - q)) 1
contains_at s q h = rw (lt-ltb q STATIONS h)

pub contains_past : (s : StationSet) (q : ℕ) → STATIONS ≤ q → contains s q ≡ false
contains_past s q h = rw (le-ltb q STATIONS h)

-- ---- nobody
pub contains_none : (q : ℕ) → contains none q ≡ false
contains_none q = elim (cases_lt q STATIONS) [
  | inl l ↦ contains_at none q l ∙ rw (bit_at-zero (15 - q))
  | inr g ↦ contains_past none q g
]

-- ---- one station more
max_one : (b : ℕ) → b < 2 → eqb (max b 1) 1 ≡ true
max_one zero l = refl
max_one (suc zero) l = refl
max_one (suc (suc b)) l = absurd (omega arith)

max_zero : (b : ℕ) → max b 0 ≡ b
max_zero b = omega arith

module _ (s : StationSet) (p : ℕ) (h : p < STATIONS) where
  pub more_bits : with_station s p ≡ record { bits = bit_or s.bits (2 ^ (15 - p)) }
  more_bits = rw (lt-ltb p STATIONS h)

  pub within_more : Within s → Within (with_station s p)
  within_more small = rw more_bits (or_lt STATIONS s.bits (2 ^ (15 - p)) small (pow_below (15 - p) STATIONS (omega arith)))

  pub contains_new : contains (with_station s p) p ≡ true
  contains_new =
      rw more_bits (contains_at (record { bits = bit_or s.bits (2 ^ (15 - p)) }) p h
      ∙ rw (bit_at_or s.bits (2 ^ (15 - p)) (15 - p), bit_at-pow_same (15 - p)) (max_one (bit_at s.bits (15 - p)) (bit_at-lt s.bits (15 - p))))

  pub contains_old : (q : ℕ) → (q ≡ p → ⊥) → contains (with_station s p) q ≡ contains s q
  contains_old q apart = rw more_bits (elim (cases_lt q STATIONS) [
    | inl l ↦
        contains_at (record { bits = bit_or s.bits (2 ^ (15 - p)) }) q l
        ∙ ap (λ b. eqb b 1) (bit_at_or s.bits (2 ^ (15 - p)) (15 - q)
        ∙ ap (max (bit_at s.bits (15 - q))) (bit_at-pow_other (15 - p) (15 - q) (λ e. apart (omega arith))) ∙ max_zero (bit_at s.bits (15 - q)))
        ∙ sym (contains_at s q l)
    | inr g ↦ contains_past (record { bits = bit_or s.bits (2 ^ (15 - p)) }) q g ∙ sym (contains_past s q g)
  ])

  -- the same, as one test
  pub contains_more : (q : ℕ) → contains (with_station s p) q ≡ (contains s q || (eqb q p && ltb q STATIONS))
  contains_more q = elim (cases_eq q p) [
    | inl e ↦ rw (e, contains_new) (sym (or_right (contains s p) (eqb p p && ltb p STATIONS) (and_from _ _ (eq-eqb p p refl) (lt-ltb p STATIONS h))))
    | inr e ↦ contains_old q e ∙ sym (or-false (contains s q)) ∙ ap (λ b. contains s q || b) (sym (and_left (eqb q p) (ltb q STATIONS) (ne_eqb q p e)))
  ]

-- ---- the set that a test makes
bits_below : (n : ℕ) (f : ℕ → Bool) → bits_of n f < 2 ^ n
bits_below zero f = omega arith
bits_below (suc n) f =
    let rest : bits_of n (λ q. f (suc q)) < 2 ^ n = bits_below n (λ q. f (suc q)) in
    elim (f 0) as (λ b. cond b (2 ^ n) 0 + bits_of n (λ q. f (suc q)) < 2 ^ suc n) [ true ↦ omega arith | false ↦ omega arith ]

weighed : (b : Bool) (n r : ℕ) → cond b (2 ^ n) 0 + r ≡ cond b 1 0 * 2 ^ n + r
weighed true n r = omega arith
weighed false n r = omega arith

lowest : (b : Bool) → bit_at (cond b 1 0) 0 ≡ cond b 1 0
lowest true = refl
lowest false = refl

-- each bit says whether its place passes
bit_of : (n : ℕ) (f : ℕ → Bool) (q j : ℕ) → q + suc j ≡ n → bit_at (bits_of n f) j ≡ cond (f q) 1 0
bit_of zero f q j e = absurd (omega arith)
bit_of (suc n) f zero j e =
    let top : j ≡ n = omega arith in
    let rest : ℕ = bits_of n (λ q. f (suc q)) in
    let none : n - n ≡ 0 = omega arith in
    rw (top, weighed (f 0) n rest, bit_at_cat_high (cond (f 0) 1 0) n rest n (bits_below n (λ q. f (suc q))) (omega arith), none) (lowest (f 0))
bit_of (suc n) f (suc q) j e =
    let rest : ℕ = bits_of n (λ q. f (suc q)) in
    rw (weighed (f 0) n rest, bit_at_cat_low (cond (f 0) 1 0) n rest j (omega arith)) (bit_of n (λ q. f (suc q)) q j (omega arith))

flag : (b : Bool) → eqb (cond b 1 0) 1 ≡ b
flag true = refl
flag false = refl

pub within_set : (f : ℕ → Bool) → Within (set_of f)
within_set f = bits_below STATIONS f

pub contains_set : (f : ℕ → Bool) (q : ℕ) → q < STATIONS → contains (set_of f) q ≡ f q
contains_set f q h = rw (lt-ltb q STATIONS h, bit_of STATIONS f q (15 - q) (omega arith)) (flag (f q))

-- ---- the members make up the set
pub same_members : (s t : StationSet) → Within s → Within t → ((q : ℕ) → q < STATIONS → contains s q ≡ contains t q) → s ≡ t
same_members s t small small' same =
    let bits : s.bits ≡ t.bits = same_from_bits_below STATIONS s.bits t.bits small small' (λ i l.
    let q : ℕ = 15 - i in
    let h : q < STATIONS = omega arith in
    let place : 15 - q ≡ i = omega arith in
    one (bit_at s.bits i) (bit_at t.bits i) (bit_at-lt s.bits i) (bit_at-lt t.bits i) (rw (lt-ltb q STATIONS h, place) at (same q h))) in
    ap (λ b. record { bits = b }) bits
  where
    one : (a b : ℕ) → a < 2 → b < 2 → eqb a 1 ≡ eqb b 1 → a ≡ b
    one a b l m e = grind arith

-- ---- how many they are
ones_below_two : (a : ℕ) → a < 2 → ones a ≡ cond (eqb (bit_at a 0) 1) 1 0
unfolding ones
ones_below_two zero l = refl
ones_below_two (suc zero) l = refl
ones_below_two (suc (suc a)) l = absurd (omega arith)

counted : (n b : ℕ) (f : ℕ → Bool) → b < 2 ^ n → ((q j : ℕ) → q + suc j ≡ n → f q ≡ eqb (bit_at b j) 1) → ones b ≡ count n f
counted zero b f h is = let none : b ≡ 0 = omega arith in rw none (ones_below_two 0 (omega arith))
counted (suc n) b f h is =
    let a : ℕ = b / 2 ^ n in
    let r : ℕ = b % 2 ^ n in
    let whole : b ≡ a * 2 ^ n + r = sym (shr_split b n) in
    let small : r < 2 ^ n = mod_below b (2 ^ n) (pow_pos n) in
    let two : a < 2 = div_below b (2 ^ n) 2 (pow_pos n) (omega arith) in
    let rest : ones r ≡ count n (λ q. f (suc q)) =
    counted n r (λ q. f (suc q)) small (λ q j e. is (suc q) j (omega arith)
    ∙ ap (λ x. eqb x 1) (ap (λ x. bit_at x j) whole ∙ bit_at_cat_low a n r j (omega arith))) in
    let none : n - n ≡ 0 = omega arith in
    let top : f 0 ≡ eqb (bit_at a 0) 1 = is 0 n (omega arith)
    ∙ ap (λ x. eqb x 1) (ap (λ x. bit_at x n) whole ∙ bit_at_cat_high a n r n small (omega arith) ∙ ap (bit_at a) none) in
    ap ones whole ∙ ones_cat n a r small ∙ rw (rest, top, ones_below_two a two)

pub size_bits : (s : StationSet) → Within s → size s ≡ ones s.bits
size_bits s small = count_by_tabulate (contains s) STATIONS (λ q. q) ∙ sym (counted STATIONS s.bits (contains s) small (λ q j e.
    let h : q < STATIONS = omega arith in
    let place : 15 - q ≡ j = omega arith in
    rw (lt-ltb q STATIONS h, place)))
