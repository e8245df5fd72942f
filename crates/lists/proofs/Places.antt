-- What stands at a place of a list, and whether anything does.
use Rattle.std.proofs.Common.{◌≡◌, ℕ, zero, suc, ◌<◌, List, [], ◌∷◌, length, set, Some, refl, ap, ◌∙◌, arith}
use Rattle.std.specs.List.{slice_get}
use Rattle.std.proofs.lemmas.List.{length-set, get_or-set_same}
use Rattle.std.proofs.lemmas.Option.{slice_get-get_or}

module _ {A : Type 0} where
  pub something_at : (xs : List A) (i : ℕ) → i < length xs → (x : A) × (slice_get xs i ≡ Some x)
  something_at [] i h = absurd (omega arith)
  something_at (x ∷ xs) zero h = (x, refl)
  something_at (x ∷ xs) (suc i) h = something_at xs i (omega arith)

  pub written_here : (xs : List A) (i : ℕ) (x : A) → i < length xs → slice_get (set xs i x) i ≡ Some x
  written_here xs i x h = slice_get-get_or (set xs i x) i x (simp length-set h) ∙ ap Some (get_or-set_same xs i x x h)

  pub written_elsewhere : (xs : List A) (i j : ℕ) (x : A) → (j ≡ i → ⊥) → slice_get (set xs i x) j ≡ slice_get xs j
  written_elsewhere [] i j x h = refl
  written_elsewhere (y ∷ xs) zero zero x h = absurd (h refl)
  written_elsewhere (y ∷ xs) zero (suc j) x h = refl
  written_elsewhere (y ∷ xs) (suc i) zero x h = refl
  written_elsewhere (y ∷ xs) (suc i) (suc j) x h = written_elsewhere xs i j x (λ e. h (ap suc e))
