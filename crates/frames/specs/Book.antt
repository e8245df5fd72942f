-- A book entry: how a finished round is written down as one word of 64 bits, and whom a book's words name.
use Rattle.std.specs.Prelude.{◌≡◌, ℕ, ◌+◌, ◌*◌, ◌/◌, ◌%◌, ◌^◌, Bool, cond, ◌&&◌, List, [], ◌∷◌, Some, None, Option, ◌==◌, nat_lt, slice_index_or}
use Rattle.lists.specs.Lists.{tabulate}
use Rattle.stations.specs.declared.StationSet.{StationSet}
use Rattle.stations.specs.declared.TheConstants.{STATIONS}
use Rattle.stations.specs.Stations.{contains, none}
use Rattle.rules.specs.Rule.{Heard}
use Rattle.frames.specs.declared.TheConstants.{ROUNDS}

-- ---- one entry
-- station 4 bits, round 12, heard set 16, 32 zero bits, the most significant first
unfoldable pub entry_word : ℕ → ℕ → StationSet → ℕ
entry_word p k heard = (p * ROUNDS + k) * 2 ^ 48 + heard.bits * 2 ^ 32

-- the word of an entry, or none where a number is too large for its bits
abbrev pub packed_entry : ℕ → ℕ → StationSet → Option ℕ
packed_entry p k heard = cond (nat_lt p STATIONS && nat_lt k ROUNDS) (Some (entry_word p k heard)) None

-- the station, the round and the senders that a word names
abbrev pub station_in : ℕ → ℕ
station_in w = w / 2 ^ 60

abbrev pub round_in : ℕ → ℕ
round_in w = (w / 2 ^ 48) % ROUNDS

abbrev pub senders_in : ℕ → StationSet
senders_in w = record { bits = (w / 2 ^ 32) % 2 ^ STATIONS }

-- all three; a word's low 32 bits are ignored
abbrev pub read_entry : ℕ → ℕ × ℕ × StationSet
read_entry w = (station_in w, round_in w, senders_in w)

-- an entry survives its word
abbrev pub EntryBack : ℕ → ℕ → StationSet → Option ℕ → Type 0
EntryBack p k heard word = (w : ℕ) → word ≡ Some w → read_entry w ≡ (p, k, heard)

-- a word survives its entry, but for its low 32 bits, which become 0
abbrev pub EntryAgain : ℕ → ℕ × ℕ × StationSet → Type 0
EntryAgain w e = packed_entry e.0 e.1 e.2 ≡ Some (w / 2 ^ 32 * 2 ^ 32)

-- ---- a book
-- whether a word is for station p and round k
abbrev pub is_for : ℕ → ℕ → ℕ → Bool
is_for p k w = station_in w == p && round_in w == k

-- the senders that a book's words name: those of the first word for the station and the round, or nobody
abbrev pub heard_set : List ℕ → ℕ → ℕ → StationSet
heard_set [] p k = none
heard_set (w ∷ ws) p k = cond (is_for p k w) (senders_in w) (heard_set ws p k)

-- the same, sender by sender
abbrev pub book_heard : List ℕ → Heard
book_heard words p k = contains (heard_set words p k)

-- the sets of all stations in round k
abbrev pub heard_sets : List ℕ → ℕ → List StationSet
heard_sets words k = tabulate STATIONS (λ p. heard_set words p k)

-- whether p hears q by the sets of all stations
abbrev pub hears : List StationSet → ℕ → ℕ → Bool
hears sets p = contains (slice_index_or sets p none)
