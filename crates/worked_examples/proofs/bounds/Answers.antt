use Rattle.worked_examples.proofs.Computed.{program_words}
use Rattle.worked_examples.proofs.bounds.Goals as goal

pub returns-clause-words : goal.returns-clause-words
returns-clause-words c = program_words
