use Rattle.recount.proofs.Rounds.{advances}
use Rattle.recount.proofs.round.lockstep_round.Goals as goal

pub returns-clause-advances : goal.returns-clause-advances
returns-clause-advances g c = λ _. advances
    (g.R.Rule.behaviour c.args.rule.now) c.args.n c.args.round c.args.heard.now c.args.states.now c.args.next.now c.advance.new.next c.advance.ensures
