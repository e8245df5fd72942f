use Rattle.worked_examples.proofs.Computed.{words as computed}
use Rattle.worked_examples.proofs.packed_words.Goals as goal

pub returns-clause-examples : goal.returns-clause-examples
returns-clause-examples c = computed
