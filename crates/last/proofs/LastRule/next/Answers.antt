use Rattle.std.proofs.Common.{sym, ◌∙◌, arith}
use Rattle.last_rule.proofs.Calls.{collecting}
use Rattle.last.proofs.LastRule.next.Goals as goal

-- a coordinator that collects
pub returns-in-0-clause-votes : goal.returns-in-0-clause-votes
returns-in-0-clause-votes c =
    let mine = c.if-coordinates.true ∙ c.coordinator_of-coordinator.ensures.value in
    (collecting _ _ _ _ _ _ c.collected.ensures (sym c.if-is_outside.ensures) (omega (arith, c.if-mailbox-n.false)) c.in-0.is mine).1
