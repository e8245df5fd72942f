-- The cells of the letters are apart and within their buffer.
use Rattle.std.proofs.Common.{◌≡◌, ℕ, ◌/◌, ◌%◌, ◌<◌, ◌≤◌, List, length, set, Some, sym, ap, ◌∙◌, arith}
use Rattle.std.specs.List.{slice_get}
use Rattle.std.proofs.lemmas.Nat.{div-mul-add, mod-mul-add, mul-add-lt}
use Rattle.protocol.specs.Rows.{row_cells, letter_cells, row_cell}
use Rattle.lists.proofs.Places.{written_here, written_elsewhere}

cells_apart : (n p i p' i' : ℕ) → i < row_cells n → i' < row_cells n → row_cell n p i ≡ row_cell n p' i' → (p ≡ p') × (i ≡ i')
cells_apart n p i p' i' h h' e = (
  sym (div-mul-add p (row_cells n) i h) ∙ ap (λ x. x / row_cells n) e ∙ div-mul-add p' (row_cells n) i' h',
  sym (mod-mul-add p (row_cells n) i h) ∙ ap (λ x. x % row_cells n) e ∙ mod-mul-add p' (row_cells n) i' h',
)

pub cell_within : (n p i : ℕ) → p < n → i < row_cells n → row_cell n p i < letter_cells n
cell_within n p i h h' = omega (arith, mul-add-lt p (row_cells n) i n h h')

-- a letter written to cell i of the row of station p
module _ {L : Type 0} (letters : List L) (n p i : ℕ) (l : L) (h : i < row_cells n) where
  pub cell_written : letter_cells n ≤ length letters → p < n → slice_get (set letters (row_cell n p i) l) (row_cell n p i) ≡ Some l
  cell_written long there = written_here letters (row_cell n p i) l (omega (arith, cell_within n p i there h))

  pub cell_kept : (p' i' : ℕ) → i' < row_cells n → (p' ≡ p → i' ≡ i → ⊥) →
      slice_get (set letters (row_cell n p i) l) (row_cell n p' i') ≡ slice_get letters (row_cell n p' i')
  cell_kept p' i' h' e = written_elsewhere letters (row_cell n p i) (row_cell n p' i') l (λ z. let a = cells_apart n p' i' p i h' h z in e a.0 a.1)
