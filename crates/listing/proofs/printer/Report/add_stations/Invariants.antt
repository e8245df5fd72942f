use Rattle.std.proofs.Common.{◌≡◌, ◌++◌, length, drop, vec_items}
use Rattle.listing.specs.Listing.{stations_from}
use Rattle.listing.proofs.printer.Report.add_stations.Given as goal

abbrev pub invariant-loop-station : goal.invariant-loop-station
invariant-loop-station l = vec_items l.out ++ stations_from (length (vec_items l.self.stations)) l.self.book.now l.station
    (drop l.station (vec_items l.self.stations)) ≡ vec_items l.initial.out ++ stations_from (length (vec_items l.self.stations)) l.self.book.now 0
    (vec_items l.self.stations)
