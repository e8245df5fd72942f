-- A set of stations: who is in it, one station more, how many they are, and the set that a test makes.
use Rattle.std.specs.Prelude.{◌≡◌, ℕ, zero, suc, ◌+◌, ◌-◌, ◌^◌, ◌<◌, Bool, cond, ◌&&◌, ◌==◌, nat_lt, bit_or, count_by}
use Rattle.std.specs.Int.{bit_at}
use Rattle.lists.specs.Lists.{tabulate}
use Rattle.stations.specs.declared.TheConstants.{STATIONS}
use Rattle.stations.specs.declared.StationSet.{StationSet}

-- whether q is in the set: its bit is 1, of as many bits as there are stations, station 0's the highest
abbrev pub contains : StationSet → ℕ → Bool
contains s q = nat_lt q STATIONS && bit_at s.bits (STATIONS - 1 - q) == 1

-- nobody
abbrev pub none : StationSet
none = record { bits = 0 }

-- the set with q in it too; the set itself if there is no station q
abbrev pub with_station : StationSet → ℕ → StationSet
with_station s q = cond (nat_lt q STATIONS) (record { bits = bit_or s.bits (2 ^ (STATIONS - 1 - q)) }) s

-- how many stations are in the set
abbrev pub size : StationSet → ℕ
size s = count_by (contains s) (tabulate STATIONS (λ q. q))

-- n bits, which say of 0, 1, .. n - 1 whether they pass, the first highest
abbrev pub bits_of : ℕ → (ℕ → Bool) → ℕ
bits_of zero passes = 0
bits_of (suc n) passes = cond (passes 0) (2 ^ n) 0 + bits_of n (λ q. passes (suc q))

-- the stations that pass a test
abbrev pub set_of : (ℕ → Bool) → StationSet
set_of passes = record { bits = bits_of STATIONS passes }

-- there are no bits but those of stations, as in every set that a program holds
abbrev pub Within : StationSet → Type 0
Within s = s.bits < 2 ^ STATIONS

abbrev pub SameMembers : StationSet → StationSet → Type 0
SameMembers s t = (q : ℕ) → contains s q ≡ contains t q
