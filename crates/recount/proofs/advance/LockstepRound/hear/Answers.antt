use Rattle.lists.proofs.Tables.{written_more}
use Rattle.recount.specs.Recount.{letter_in}
use Rattle.recount.proofs.advance.LockstepRound.hear.Goals as goal

pub loop-sender-preserved : goal.loop-sender-preserved
loop-sender-preserved g c =
    let all = c.args.self.now in
    let f = letter_in (g.R.Rule.behaviour all.rule.now) all.n all.round all.heard.now all.states.now c.args.receiver in
    written_more c.loop-sender.sender f
    _ c.loop-sender.place-items c.letter.result c.loop-sender.invariant c.loop-sender-test.true c.letter.ensures
