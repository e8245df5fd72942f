use Rattle.std.proofs.Common.{take}
use Rattle.lists.proofs.Tables.{written_more}
use Rattle.recount.specs.Recount.{state_after}
use Rattle.recount.proofs.advance.LockstepRound.advance.Goals as goal

pub loop-station-preserved : goal.loop-station-preserved
loop-station-preserved g c =
    let all = c.args.self.now in
    let f = state_after (g.R.Rule.behaviour all.rule.now) all.n all.round all.heard.now all.states.now in
    written_more c.loop-station.station f
    (take all.n c.args.next.now) c.loop-station.cell-items c.next.result c.loop-station.invariant c.loop-station-test.true c.next.ensures
