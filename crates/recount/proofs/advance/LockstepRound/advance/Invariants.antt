use Rattle.std.proofs.Common.{◌≡◌}
use Rattle.lists.specs.Lists.{written}
use Rattle.recount.specs.Recount.{state_after}
use Rattle.recount.proofs.advance.LockstepRound.advance.Given as goal

-- the states of the stations so far
abbrev pub invariant-loop-station : goal.invariant-loop-station
invariant-loop-station g l = l.cell-items ≡ written l.station
    (state_after (g.R.Rule.behaviour l.self.rule.now) l.self.n l.self.round l.self.heard.now l.self.states.now) l.initial.cell-items
