use Rattle.std.proofs.Common.{arith}
use Rattle.std.proofs.lemmas.Bool.Decides.{nat_tests}
use Rattle.frames.specs.Frame.{read_frame}
use Rattle.frames.proofs.RoundTrip.{read_packs_again}
use Rattle.frames.proofs.frame.read_frame.Goals as goal

pub returns-clause-packs_again : goal.returns-clause-packs_again
unfolding read_frame
returns-clause-packs_again g c =
    let rule = c.args.rule.now in
    read_packs_again (g.R.Rule.behaviour rule) (g.met.R.Rule.laws rule) c.args.n c.args.word _ (omega arith) (grind (arith, nat_tests))
