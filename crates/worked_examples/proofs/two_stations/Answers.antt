use Rattle.std.proofs.Common.{rules}
use Rattle.worked_examples.proofs.Computed.{calls}
use Rattle.worked_examples.proofs.Settled.{settled}
use Rattle.worked_examples.proofs.two_stations.Goals as goal

pub returns-clause-refusals : goal.returns-clause-refusals
returns-clause-refusals c =
    (settled c.conduct-opened.result c.conduct-opened.new.buffers c.conduct-opened.new.outcomes c.conduct-opened.ensures.conducted).tells

pub returns-clause-hulls : goal.returns-clause-hulls
returns-clause-hulls c =
    search (rules, (settled c.conduct-opened.result c.conduct-opened.new.buffers c.conduct-opened.new.outcomes c.conduct-opened.ensures.conducted).states)

pub returns-clause-book : goal.returns-clause-book
returns-clause-book c =
    search (rules, (settled c.conduct-opened.result c.conduct-opened.new.buffers c.conduct-opened.new.outcomes c.conduct-opened.ensures.conducted).book)

pub returns-clause-examples : goal.returns-clause-examples
returns-clause-examples c = calls
