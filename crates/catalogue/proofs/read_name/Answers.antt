use Rattle.std.proofs.Common.{◌∙◌}
use Rattle.catalogue.proofs.Names.{no_text}
use Rattle.lists.proofs.Results.{ok_dropped}
use Rattle.catalogue.proofs.read_name.Goals as goal

pub returns-in_err-ok-clause-reads : goal.returns-in_err-ok-clause-reads
returns-in_err-ok-clause-reads c = c.from_residual.ensures
    ∙ no_text c.args.bytes.now (ok_dropped _ _ c.from_utf8.result c.from_utf8.ensures.cases c.in_err-ok.ensures.value).1.0
