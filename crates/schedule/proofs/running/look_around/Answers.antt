use Rattle.std.proofs.Common.{vec_items}
use Rattle.std.proofs.lemmas.Result.{err_from_is_err_and}
use Rattle.protocol.specs.Calls.{look_refusal, sight_of}
use Rattle.shed_core.specs.Of.{world_of}
use Rattle.schedule.proofs.Played.{one_more_sight}
use Rattle.protocol.proofs.Outcomes.{attempt_laws}
use Rattle.schedule.proofs.running.look_around.Goals as goal

pub returns-in_err-sight : goal.returns-in_err-sight
returns-in_err-sight g c =
    let R = g.R.Rule.behaviour c.args.rule.now in
    let w = world_of c.args.shed.now c.args.buffers.now in
    let p = err_from_is_err_and c.from_residual.result c.from_residual.ensures.1 in
    let station = c.loop-station.station in
    rw (p.1, p.2) (
      station,
      c.loop-station-test.true,
      ((attempt_laws w w (sight_of R w station)).refused (look_refusal R w station) c.in_err-sight.field-0.0 c.in_err-sight.ensures.answers).0,
    )

pub loop-station-preserved : goal.loop-station-preserved
loop-station-preserved g c =
    let R = g.R.Rule.behaviour c.args.rule.now in
    let w = world_of c.args.shed.now c.args.buffers.now in
    let p = c.loop-station.station in
    let seen = ((attempt_laws w w (sight_of R w p)).accepted (look_refusal R w p) c.in_ok-sight.sight c.in_ok-sight.ensures.answers).1 in
    one_more_sight R w p (vec_items c.loop-station.sights) _ c.in_ok-sight.sight c.loop-station.invariant seen c.in_ok-push.ensures.items
