-- What the calls ask for before they act, in parts that they share, each in checking order.
use Rattle.std.specs.Prelude.{ℕ, Bool, not, ◌||◌, List, [], ◌∷◌, ◌++◌, length, ◌==◌, nat_le, nat_lt}
use Rattle.rules.specs.declared.TheConstants.{LAST_ROUND}
use Rattle.protocol.specs.declared.types.StationRecord.{StationRecord}
use Rattle.protocol.specs.declared.refusal.Refusal.{Refusal}
use Rattle.protocol.specs.declared.refusal.Refusal.TheVariants.{Shut, ValueCount, BufferMismatch, NoSuchStation, NoSuchPlace, StationDown, AlreadySent}
use Rattle.protocol.specs.declared.refusal.Refusal.TheVariants.{NotListening, BookFull, LastRound}
use Rattle.protocol.specs.Records.{is_fresh, is_listening, is_down}
use Rattle.protocol.specs.Rows.{letter_cells}
use Rattle.protocol.specs.World.{World}

-- the buffers have not the lengths that an open shed asks for
abbrev pub mismatched : {S L : Type 0} → World S L → Bool
mismatched w = nat_lt (length w.states) w.n || nat_lt (length w.letters) (letter_cells w.n) || not (length w.pool == w.pool_len) || not
    (length w.book == w.book_len)

-- of every call but open: the shed is open, and its buffers fit it
abbrev pub ready_tests : {S L : Type 0} → World S L → List (Bool × Refusal)
ready_tests w = ((w.n == 0), Shut) ∷ (mismatched w, BufferMismatch) ∷ []

-- n stations or opening values, where a rule has so many at the most
abbrev pub count_tests : (most n : ℕ) → List (Bool × Refusal)
count_tests most n = (n == 0 || nat_lt most n, ValueCount) ∷ []

-- place k, in a pool of so many frames
abbrev pub place_tests : (frames k : ℕ) → List (Bool × Refusal)
place_tests frames k = (nat_le frames k, NoSuchPlace) ∷ []

-- station p, one of n
abbrev pub station_tests : (n p : ℕ) → List (Bool × Refusal)
station_tests n p = (nat_le n p, NoSuchStation) ∷ []

-- station p with record s, which is not down
abbrev pub standing_tests : (n p : ℕ) → StationRecord → List (Bool × Refusal)
standing_tests n p s = station_tests n p ++ (is_down s.stand, StationDown) ∷ []

-- station p, which may send
abbrev pub speaker_tests : (n p : ℕ) → StationRecord → List (Bool × Refusal)
speaker_tests n p s = standing_tests n p s ++ (is_listening s.stand, AlreadySent) ∷ []

-- station p, which may turn, where the book has so many entries of so many words
abbrev pub turner_tests : (n p : ℕ) → StationRecord → (entries book_len : ℕ) → List (Bool × Refusal)
turner_tests n p s entries book_len =
    standing_tests n p s ++ (is_fresh s.stand, NotListening) ∷ ((entries == book_len), BookFull) ∷ ((s.round == LAST_ROUND), LastRound) ∷ []
