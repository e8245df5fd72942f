-- What is true of each rule in the catalogue.
use Rattle.std.proofs.Common.{◌≡◌, refl}
use Rattle.std.proofs.lemmas.List.{length-replicate}
use Rattle.protocol.specs.Rows.{letter_cells}
use Rattle.stations.specs.declared.TheConstants.{STATIONS}
use Rattle.catalogue.specs.declared.RuleName.{RuleName}
use Rattle.catalogue.specs.declared.RuleName.TheVariants.{Third, Last}
use Rattle.catalogue.specs.Catalogue.{StateOf, behaviour_of, letter_of, ForAllStations}

most : (name : RuleName) → (behaviour_of name).most ≡ STATIONS
most Third = refl
most Last = refl

pub for_all_stations : ForAllStations
for_all_stations = record {
  most = most;
  states = λ name. let state : StateOf name = (behaviour_of name).first 1 0 0 in length-replicate STATIONS state;
  letters = λ name. length-replicate (letter_cells STATIONS) (letter_of name);
}
