use Rattle.std.proofs.Common.{◌+◌, arith}
use Rattle.std.proofs.lemmas.Bool.{leb-false, eqb-false}
use Rattle.rules.specs.declared.TheConstants.{LAST_ROUND}
use Rattle.stations.specs.Stations.{none}
use Rattle.protocol.specs.declared.types.Stand.TheVariants.{Fresh}
use Rattle.protocol.specs.World.{station}
use Rattle.protocol.specs.Calls.{turned, turn_refusal}
use Rattle.shed_core.specs.Of.{world_of}
use Rattle.shed_core.specs.Checks.{record_of}
use Rattle.protocol.specs.Tests.{ready_tests, turner_tests}
use Rattle.protocol.proofs.Outcomes.{test_laws}
use Rattle.shed_core.proofs.Stations.{changed_sound, turned_sound}
use Rattle.shed_core.proofs.Worlds.{refused}
use Rattle.shed_core.proofs.shed.Shed.turn.Goals as goal

pub returns-in_err-ready-clause-call : goal.returns-in_err-ready-clause-call
returns-in_err-ready-clause-call g c =
    let R = g.R.Rule.behaviour c.args.rule.now in
    let s = c.args.self.now in
    let b = c.args.buffers.now in
    let w = world_of s b in
    let p = c.args.p in
    let f = c.in_err-ready.field-0.0 in
    refused w (turned R w p) ((station w p).round + 1) (turn_refusal R w p) f c.from_residual.result
    (test_laws.refused_first (ready_tests w) (turner_tests s.count p (record_of s p) s.entries s.book_len) f c.in_err-ready.ensures) c.from_residual.ensures.1

pub invariant_of-self-clause-entered : goal.invariant_of-self-clause-entered
invariant_of-self-clause-entered g c =
    let s = c.args.self.now in
    let p = c.args.p in
    let fails = test_laws.none_holds (turner_tests s.count p (record_of s p) s.entries s.book_len) c.in_ok-station.ensures.0 in
    omega (arith, s.entered, eqb-false s.entries s.book_len (fails 3))

pub invariant_of-self-clause-sound : goal.invariant_of-self-clause-sound
invariant_of-self-clause-sound g c =
    let s = c.args.self.now in
    let p = c.args.p in
    let n = s.count in
    let old = record_of s p in
    let known = c.in_ok-station.ensures.1 in
    let fails = test_laws.none_holds (turner_tests n p old s.entries s.book_len) c.in_ok-station.ensures.0 in
    changed_sound n p s.table.records _ (record old { round = old.round + 1; stand = Fresh; heard = none })
    (rw (known, c.empty-station.ensures.set) at c.change.ensures) s.sound
    (turned_sound n p (leb-false n p (fails 0)) old (s.sound p) (eqb-false old.round LAST_ROUND (fails 4)))
