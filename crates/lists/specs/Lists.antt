-- Lists by places: made from a function, and written over from a place on.
use Rattle.std.specs.Prelude.{ℕ, zero, suc, List, [], ◌∷◌, ◌++◌, drop, slice_set}

-- the list f 0, f 1, .. , f (n - 1)
abbrev pub tabulate : {A : Type 0} → ℕ → (ℕ → A) → List A
tabulate zero f = []
tabulate (suc n) f = f zero ∷ tabulate n (λ k. f (suc k))

-- xs, of which the first n cells were written by f
abbrev pub written : {A : Type 0} → ℕ → (ℕ → A) → List A → List A
written n f xs = tabulate n f ++ drop n xs

-- xs with ys written over it from place c on; what would lie past its end is lost
abbrev pub put : {A : Type 0} → List A → ℕ → List A → List A
put xs c [] = xs
put xs c (y ∷ ys) = put (slice_set xs c y) (suc c) ys
