-- A station's record: what is asked of it, how it changes, and how it judges a frame.
use Rattle.std.specs.Prelude.{ℕ, Bool, true, false, cond, [], ◌∷◌, Some, None, Ok, Err, Option, Result, ◌==◌, nat_lt}
use Rattle.stations.specs.Stations.{contains, none, with_station}
use Rattle.protocol.specs.declared.types.Held.{Held}
use Rattle.protocol.specs.declared.types.Stand.{Stand}
use Rattle.protocol.specs.declared.types.Stand.TheVariants.{Fresh, Listening, Down}
use Rattle.protocol.specs.declared.types.StationRecord.{StationRecord}
use Rattle.protocol.specs.declared.types.Fate.{Fate}
use Rattle.protocol.specs.declared.types.Fate.TheVariants.{Late, Again, Taken, Early}
use Rattle.protocol.specs.declared.refusal.Refusal.{Refusal}
use Rattle.protocol.specs.declared.refusal.Refusal.TheVariants.{StationDown, NotListening, HoldsLetter}
use Rattle.protocol.specs.Refusals.{first_outcome}

-- a station in round 0 that has sent, heard and held nothing
abbrev pub blank : StationRecord
blank = record { round = 0; stand = Fresh; heard = none; hold = None }

abbrev pub is_fresh : Stand → Bool
is_fresh Fresh = true
is_fresh Listening = false
is_fresh Down = false

abbrev pub is_listening : Stand → Bool
is_listening Fresh = false
is_listening Listening = true
is_listening Down = false

abbrev pub is_down : Stand → Bool
is_down Fresh = false
is_down Listening = false
is_down Down = true

abbrev pub holds : Option Held → Bool
holds None = false
holds (Some h) = true

-- the sender of a held letter of round k
abbrev pub held_for : Option Held → ℕ → Option ℕ
held_for None k = None
held_for (Some h) k = cond (h.round == k) (Some h.sender) None

-- the sender of the letter that a station holds for its own round
abbrev pub due : StationRecord → Option ℕ
due s = held_for s.hold s.round

-- the record of a station that heard q, and of one that holds a letter
abbrev pub hearing : StationRecord → ℕ → StationRecord
hearing s q = record s { heard = with_station s.heard q }

abbrev pub holding : StationRecord → Held → StationRecord
holding s h = record s { hold = Some h }

-- the record of a station that begins to listen, and the sender of the held letter that it takes in
abbrev pub listened : StationRecord → Option ℕ → StationRecord
listened s None = record s { stand = Listening }
listened s (Some q) = record s { stand = Listening; heard = with_station s.heard q; hold = None }

-- the fate of a frame of round k from q at a station, or why the station does not take it, in checking order
abbrev pub judged : StationRecord → (q k : ℕ) → Result Fate Refusal
judged s q k =
    first_outcome (
    (is_down s.stand, Err StationDown) ∷
    (is_fresh s.stand, Err NotListening) ∷
    (holds s.hold, Err HoldsLetter) ∷
    (nat_lt k s.round, Ok Late) ∷
    (nat_lt s.round k, Ok Early) ∷
    (contains s.heard q, Ok Again) ∷ []) (Ok Taken)
