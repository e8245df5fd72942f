use Rattle.std.proofs.Common.{arith, rules}
use Rattle.recount.proofs.OwnBook.{agrees}
use Rattle.recount.proofs.recount.Goals as goal

pub returns-in_err-check-clause-agrees : goal.returns-in_err-check-clause-agrees
returns-in_err-check-clause-agrees g c =
    let rule = c.args.rule.now in
    agrees (g.R.Rule.behaviour rule) (g.met.R.Rule.interface rule) (g.met.R.Rule.laws rule) (g.met.R.Rule.ranges rule) c.args.values.now
    (λ p _. omega (arith, c.type_inv.values p)) c.args.book.now c.args.round _ _ _ (search rules)

pub returns-clause-agrees : goal.returns-clause-agrees
returns-clause-agrees g c =
    let rule = c.args.rule.now in
    agrees (g.R.Rule.behaviour rule) (g.met.R.Rule.interface rule) (g.met.R.Rule.laws rule) (g.met.R.Rule.ranges rule) c.args.values.now
    (λ p _. omega (arith, c.type_inv.values p)) c.args.book.now c.args.round _ _ _ (search rules)
