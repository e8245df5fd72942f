use Rattle.worked_examples.proofs.Computed.{third_rounds as computed}
use Rattle.worked_examples.proofs.third_rounds.Goals as goal

pub returns-clause-examples : goal.returns-clause-examples
returns-clause-examples c = computed
