-- What is known of sets of stations, whatever stands for them.
use Rattle.std.specs.Prelude.{◌≡◌, ℕ, ◌<◌, Bool, true, false}
use Rattle.stations.specs.declared.TheConstants.{STATIONS}
use Rattle.stations.specs.declared.StationSet.{StationSet}
use Rattle.stations.specs.Stations.{contains, none, with_station, set_of, Within}

pub record SetLaws : Type 0 where
  -- nobody is in the empty set
  pub contains_none : (q : ℕ) → contains none q ≡ false
  -- who joins a set is in it, and nobody else comes or goes
  pub contains_new : (s : StationSet) (p : ℕ) → p < STATIONS → contains (with_station s p) p ≡ true
  pub contains_old : (s : StationSet) (p : ℕ) → p < STATIONS → (q : ℕ) → (q ≡ p → ⊥) → contains (with_station s p) q ≡ contains s q
  pub within_more : (s : StationSet) (p : ℕ) → p < STATIONS → Within s → Within (with_station s p)
  -- in the set that a test makes is who passes it
  pub contains_set : (passes : ℕ → Bool) (q : ℕ) → q < STATIONS → contains (set_of passes) q ≡ passes q
  pub within_set : (passes : ℕ → Bool) → Within (set_of passes)
  -- sets with the same members are the same
  pub same_members : (s t : StationSet) → Within s → Within t → ((q : ℕ) → q < STATIONS → contains s q ≡ contains t q) → s ≡ t
