-- What a shed never lacks: its records are such as stations of the shed can have.
use Rattle.std.specs.Prelude.{◌≡◌, ℕ, ◌<◌, ◌≤◌, true, List, Some, slice_index_or}
use Rattle.stations.specs.Stations.{contains}
use Rattle.rules.specs.declared.TheConstants.{LAST_ROUND}
use Rattle.frames.specs.Book.{station_in, senders_in}
use Rattle.protocol.specs.declared.types.Held.{Held}
use Rattle.protocol.specs.declared.types.StationRecord.{StationRecord}
use Rattle.protocol.specs.Records.{blank}

-- a record for the place p among those of n stations: no round is past the last, whoever is named is one of the n
-- stations, and past them nothing is recorded
pub record Sound (n p : ℕ) (s : StationRecord) : Type 0 where
  pub round : s.round ≤ LAST_ROUND
  pub heard : (q : ℕ) → contains s.heard q ≡ true → q < n
  pub holder : (h : Held) → s.hold ≡ Some h → h.sender < n
  pub holding : (h : Held) → s.hold ≡ Some h → h.round ≤ LAST_ROUND
  pub past : n ≤ p → s ≡ blank

-- such are all records
abbrev pub AllSound : ℕ → List StationRecord → Type 0
AllSound n records = (p : ℕ) → Sound n p (slice_index_or records p blank)

-- a word of the book names only stations of n, as the one that turned and as senders
pub record NamesStations (n word : ℕ) : Type 0 where
  pub turner : station_in word < n
  pub senders : (q : ℕ) → contains (senders_in word) q ≡ true → q < n
