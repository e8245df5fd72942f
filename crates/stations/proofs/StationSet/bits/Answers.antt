use Rattle.std.proofs.Common.{ap, arith}
use Rattle.stations.proofs.Members.{same_members}
use Rattle.stations.proofs.StationSet.bits.Goals as goal

pub returns-clause-told : goal.returns-clause-told
returns-clause-told c = λ other small same. ap (λ s. s.bits) (same_members c.args.self other (omega arith) small (λ q _. same q))
