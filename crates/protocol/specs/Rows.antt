-- The cells of the letters: a row for each station.
use Rattle.std.specs.Prelude.{ℕ, ◌+◌, ◌*◌}

-- how many cells the row of one of n stations has: one for the letter of each station, and one for a held letter
abbrev pub row_cells : ℕ → ℕ
row_cells n = n + 1

-- how many cells n stations ask for
abbrev pub letter_cells : ℕ → ℕ
letter_cells n = n * row_cells n

-- cell i of the row of station p
abbrev pub row_cell : (n p i : ℕ) → ℕ
row_cell n p i = p * row_cells n + i

-- where the letter lies that p has from q
abbrev pub letter_cell : (n p q : ℕ) → ℕ
letter_cell n p q = row_cell n p q

-- where the letter lies that p holds
abbrev pub held_cell : (n p : ℕ) → ℕ
held_cell n p = row_cell n p n
