use Rattle.worked_examples.proofs.Computed.{last_rounds as computed, last_runs}
use Rattle.worked_examples.proofs.last_rounds.Goals as goal

pub returns-clause-examples : goal.returns-clause-examples
returns-clause-examples c = computed

pub returns-clause-runs : goal.returns-clause-runs
returns-clause-runs c = last_runs
