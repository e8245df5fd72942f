use Rattle.std.proofs.Common.{sym, arith}
use Rattle.stations.proofs.Members.{size_bits}
use Rattle.stations.proofs.StationSet.len.Goals as goal

pub returns-clause-size : goal.returns-clause-size
returns-clause-size c = sym (size_bits c.args.self (omega arith))
