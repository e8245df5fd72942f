use Rattle.std.proofs.Common.{rules}
use Rattle.shed_core.proofs.shed.Shed.openable.Goals as goal

-- there are at most sixteen stations
pub letter_cells-requires : goal.letter_cells-requires
letter_cells-requires g c =
    let law = g.met.R.Rule in
    let most = law.most c.args.rule.now in
    let few = (law.interface c.args.rule.now).most_few in
    search rules
