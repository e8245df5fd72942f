use Rattle.shed_core.proofs.Stations.{blanks_sound}
use Rattle.shed_core.proofs.shed.Shed.new.Goals as goal

pub invariant_of-result-clause-sound : goal.invariant_of-result-clause-sound
invariant_of-result-clause-sound c = blanks_sound 0 c.new.result.records c.new.ensures
