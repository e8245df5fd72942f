-- A book's words by station and round.
use Rattle.std.specs.Prelude.{◌≡◌, ℕ, ◌/◌, ◌^◌, cond, List, [], ◌∷◌, length, ◌==◌, slice_index}
use Rattle.frames.specs.declared.index.TheConstants.{PLACES}

-- the first word of a book whose upper 16 bits, station and round, are the place; 0 where there is none
abbrev pub first_at : List ℕ → ℕ → ℕ
first_at [] place = 0
first_at (w ∷ ws) place = cond (w / 2 ^ 48 == place) w (first_at ws place)

-- a word for each station and round: the book's first for both
pub record Indexes (words book : List ℕ) : Type 0 where
  pub whole : length words ≡ PLACES
  pub first : (place : ℕ) → slice_index words place ≡ first_at book place
