use Rattle.std.proofs.Common.{◌≡◌, vec_items}
use Rattle.shed_core.specs.Of.{world_of}
use Rattle.schedule.specs.Program.{sights}
use Rattle.schedule.proofs.running.look_around.Given as goal

abbrev pub invariant-loop-station : goal.invariant-loop-station
invariant-loop-station g l = vec_items l.sights ≡ sights (g.R.Rule.behaviour l.rule) (world_of l.shed l.buffers) l.station
