use Rattle.std.proofs.Common.{arith}
use Rattle.std.proofs.lemmas.Bool.Decides.{nat_tests}
use Rattle.frames.specs.Frame.{Frame, frame_word}
use Rattle.frames.proofs.RoundTrip.{packed_reads_back}
use Rattle.frames.proofs.frame.pack_frame.Goals as goal

pub returns : goal.returns
unfolding frame_word
returns g c =
    let rule = c.args.rule.now in
    let f : Frame g.row.R-Letter.Denot = (c.args.sender, c.args.receiver, c.args.round, c.args.letter.now) in
    record {
      word = grind (arith, nat_tests);
      reads_back = packed_reads_back (g.R.Rule.behaviour rule) (g.met.R.Rule.laws rule) f _ (grind (arith, nat_tests));
    }
