use Rattle.std.proofs.Common.{◌≡◌, ◌-◌, ◌*◌, ◌%◌, ◌^◌, ◌<◌, sym, ap, ◌∙◌, arith}
use Rattle.std.specs.Int.RustNames.{bit_or}
use Rattle.std.proofs.lemmas.Nat.{one_shl}
use Rattle.stations.specs.declared.TheConstants.{STATIONS}
use Rattle.stations.specs.Stations.{contains}
use Rattle.stations.proofs.Members.{more_bits, contains_more}
use Rattle.stations.proofs.StationSet.insert.Goals as goal

pub returns-then-station-lt-STATIONS-clause-members : goal.returns-then-station-lt-STATIONS-clause-members
returns-then-station-lt-STATIONS-clause-members c = λ q.
    let s = c.args.self.now in
    let p = c.args.station in
    let h : p < STATIONS = omega arith in
    let bit : 1 * 2 ^ (15 - p) % 2 ^ 16 ≡ 2 ^ (15 - p) = one_shl (15 - p) STATIONS (omega arith) in
    ap (λ b. contains (record { bits = bit_or s.bits b }) q) bit ∙ ap (λ t. contains t q) (sym (more_bits s p h)) ∙ contains_more s p h q
