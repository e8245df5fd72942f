use Rattle.worked_examples.proofs.Computed.{texts}
use Rattle.worked_examples.proofs.read_two_steps.Goals as goal

pub returns-clause-examples : goal.returns-clause-examples
returns-clause-examples c = texts
