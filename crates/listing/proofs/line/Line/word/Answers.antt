use Rattle.std.proofs.Common.{◌+◌, length, arith}
use Rattle.std.proofs.lemmas.Grind.{common_steps}
use Rattle.listing.proofs.Filling.{blanks_left}
use Rattle.listing.proofs.line.Line.word.Goals as goal

pub invariant_of-self-clause-blank : goal.invariant_of-self-clause-blank
invariant_of-self-clause-blank c =
    let line = c.args.self.now in
    blanks_left line.cells c.copy_from_slice.new.self line.filled (line.filled + length c.args.text.now) line.all (omega arith)
    (grind (arith, common_steps)) line.blank
