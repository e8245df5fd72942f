-- How well a station was reached: the letters that it heard among those due in its turns, counted from the book's entries.
use Rattle.std.specs.Prelude.{ℕ, ◌+◌, ◌*◌, ◌/◌, Bool, cond, List, [], ◌∷◌, ◌==◌}
use Rattle.stations.specs.Stations.{size}
use Rattle.frames.specs.Book.{read_entry}

-- whether an entry is the station's, and how many letters were heard in its round
abbrev pub is_of : ℕ → ℕ → Bool
is_of station word = (read_entry word).0 == station

abbrev pub letters_in : ℕ → ℕ
letters_in word = size (read_entry word).2

-- how many entries are the station's, and how many letters it heard in them
abbrev pub turns_in_book : ℕ → List ℕ → ℕ
turns_in_book station [] = 0
turns_in_book station (w ∷ ws) = cond (is_of station w) 1 0 + turns_in_book station ws

abbrev pub letters_heard : ℕ → List ℕ → ℕ
letters_heard station [] = 0
letters_heard station (w ∷ ws) = cond (is_of station w) (letters_in w) 0 + letters_heard station ws

-- a quotient as the whole number that is printed for it: rounded down
abbrev pub rounded : ℕ → ℕ → ℕ
rounded part whole = part / whole

-- 100 times the letters heard, of n letters for each turn; 0 without turns
abbrev pub reception_of : ℕ → ℕ → List ℕ → ℕ
reception_of n station book = cond (turns_in_book station book == 0) 0 (rounded (100 * letters_heard station book) (n * turns_in_book station book))
