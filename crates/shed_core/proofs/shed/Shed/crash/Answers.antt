use Rattle.std.proofs.lemmas.Bool.{leb-false}
use Rattle.protocol.specs.declared.types.Stand.TheVariants.{Down}
use Rattle.protocol.specs.Tests.{standing_tests}
use Rattle.protocol.proofs.Outcomes.{test_laws}
use Rattle.shed_core.specs.Checks.{record_of}
use Rattle.shed_core.proofs.Stations.{changed_sound, down_sound}
use Rattle.shed_core.proofs.shed.Shed.crash.Goals as goal

pub invariant_of-self-clause-sound : goal.invariant_of-self-clause-sound
invariant_of-self-clause-sound g c =
    let s = c.args.self.now in
    let p = c.args.p in
    let n = s.count in
    let old = record_of s p in
    let known = c.in_ok-station.ensures.1 in
    let there = leb-false n p (test_laws.none_holds (standing_tests n p old) c.in_ok-station.ensures.0 0) in
    changed_sound n p s.table.records _ (record old { stand = Down }) (rw known at c.change.ensures) s.sound (down_sound n p there old (s.sound p))
