-- How many stations pass a test, and why two large groups of them overlap.
use Rattle.std.proofs.Common.{◌≡◌, ℕ, zero, suc, ◌+◌, ◌<◌, ◌≤◌, Bool, true, cond, ◌&&◌, List, [], ◌∷◌, length, get_or, count_by, refl, inl, inr, arith}
use Rattle.std.proofs.lemmas.List.Sums.{sum_by-cons}
use Rattle.std.proofs.lemmas.Bool.{and_from, and_parts, cases_Bool}
use Rattle.lists.specs.Lists.{tabulate}

-- how many stations below n pass f
abbrev pub count : ℕ → (ℕ → Bool) → ℕ
count zero f = 0
count (suc n) f = cond (f zero) 1 0 + count n (λ q. f (suc q))

count_all : (n : ℕ) → count n (λ _. true) ≡ n
count_all zero = refl
count_all (suc n) = omega (arith, count_all n)

head_overlap : (a b c : Bool) → (a ≡ true → b ≡ true → c ≡ true) → cond a 1 0 + cond b 1 0 ≤ 1 + cond c 1 0
head_overlap a b c h = grind arith

-- those that pass f and those that pass g are together at most n and those that pass both
pub overlap : (n : ℕ) (f g h : ℕ → Bool) → ((q : ℕ) → q < n → f q ≡ true → g q ≡ true → h q ≡ true) → count n f + count n g ≤ n + count n h
overlap zero f g h both = omega arith
overlap (suc n) f g h both =
    let head = head_overlap (f zero) (g zero) (h zero) (both zero (omega arith)) in
    let rest = overlap n (λ q. f (suc q)) (λ q. g (suc q)) (λ q. h (suc q)) (λ q l. both (suc q) (omega arith)) in
    omega arith

-- a weaker test passes no fewer
pub no_fewer : (n : ℕ) (f g : ℕ → Bool) → ((q : ℕ) → q < n → f q ≡ true → g q ≡ true) → count n f ≤ count n g
no_fewer n f g weaker = omega (arith, count_all n, overlap n f (λ _. true) g (λ q l h _. weaker q l h))

-- if some pass, one does
pub witness : (n : ℕ) (f : ℕ → Bool) → 0 < count n f → (q : ℕ) × (q < n) × (f q ≡ true)
witness zero f h = absurd (omega arith)
witness (suc n) f h = elim (cases_Bool (f zero)) [
  | inl e ↦ (zero, omega arith, e)
  | inr e ↦
      let more = rw e at h in
      let w = witness n (λ q. f (suc q)) (omega arith) in
      (suc w.0, omega (arith, w.1), w.2)
]

-- two groups that are together more than n have one in common
pub meet : (n : ℕ) (f g : ℕ → Bool) → n < count n f + count n g → (q : ℕ) × (q < n) × (f q ≡ true) × (g q ≡ true)
meet n f g many =
    let both = overlap n f g (λ q. f q && g q) (λ q _ s t. and_from _ _ s t) in
    let w = witness n (λ q. f q && g q) (omega arith) in
    let parts = and_parts (f w.0) (g w.0) w.2 in
    (w.0, w.1, parts.0, parts.1)

-- ---- counts over a list
pub count_by_tabulate : {A : Type 0} (p : A → Bool) (n : ℕ) (f : ℕ → A) → count_by p (tabulate n f) ≡ count n (λ q. p (f q))
count_by_tabulate p zero f = refl
count_by_tabulate p (suc n) f = omega (arith, sum_by-cons (λ x. cond (p x) 1 0) (f zero) (tabulate n (λ q. f (suc q))), count_by_tabulate p n (λ q. f (suc q)))

pub count_by_count : {A : Type 0} (p : A → Bool) (d : A) (xs : List A) → count_by p xs ≡ count (length xs) (λ q. p (get_or xs q d))
count_by_count p d [] = refl
count_by_count p d (x ∷ xs) = omega (arith, sum_by-cons (λ x. cond (p x) 1 0) x xs, count_by_count p d xs)

-- if the count over a list is not 0, a place of it passes
pub found_by : {A : Type 0} (p : A → Bool) (d : A) (xs : List A) → 0 < count_by p xs → (q : ℕ) × (q < length xs) × (p (get_or xs q d) ≡ true)
found_by p d xs h = witness (length xs) (λ q. p (get_or xs q d)) (omega (arith, count_by_count p d xs))
