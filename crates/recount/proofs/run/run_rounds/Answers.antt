use Rattle.recount.proofs.Rounds.{run_none, run_more}
use Rattle.recount.proofs.run.run_rounds.Goals as goal

pub loop-k-init : goal.loop-k-init
loop-k-init g c =
    run_none (g.R.Rule.behaviour c.args.rule.now) c.args.values.now c.args.book.now c.args.states.now
    c.first_states.new.states c.requires.1.0 c.first_states.ensures

pub loop-k-preserved : goal.loop-k-preserved
loop-k-preserved g c =
    run_more (g.R.Rule.behaviour c.args.rule.now) c.args.values.now c.args.book.now
    c.loop-k.k c.heard_in_round-heard.result c.args.states.now c.loop-k.states c.loop-k.scratch c.advance.new.next c.copy_from_slice.new.self
    c.requires.0 c.loop-k.invariant (c.heard_in_round-heard.ensures c.args.book.now c.of-index.ensures) c.advance.ensures c.copy_from_slice.ensures.after
