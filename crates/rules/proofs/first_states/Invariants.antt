use Rattle.std.proofs.Common.{◌≡◌, length, get_or}
use Rattle.lists.specs.Lists.{tabulate, put}
use Rattle.rules.proofs.first_states.Given as goal

-- the states of the stations so far
abbrev pub invariant-loop-station : goal.invariant-loop-station
invariant-loop-station g l =
    l.states ≡ put l.initial.states 0 (tabulate l.station (λ p. (g.R.Rule.behaviour l.rule).first (length l.values) p (get_or l.values p 0)))
