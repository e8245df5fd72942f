use Rattle.protocol.proofs.guarantee_holds.Goals as goal
use Rattle.protocol.proofs.Guaranteed.{guaranteed}

pub returns-clause-guarantee : goal.returns-clause-guarantee
returns-clause-guarantee g c = guaranteed (g.R.Rule.behaviour c.args.rule.now)
