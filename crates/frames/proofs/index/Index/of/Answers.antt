use Rattle.std.proofs.Common.{rules, ◌∷◌, [], refl, arith}
use Rattle.frames.proofs.Indexed.{none_indexed, indexed_more}
use Rattle.frames.proofs.Sets.{read_more}
use Rattle.frames.proofs.index.Index.of.Goals as goal

pub loop-word-init : goal.loop-word-init
loop-word-init c = ([], search rules, none_indexed 65536 refl)

pub loop-word-preserved : goal.loop-word-preserved
loop-word-preserved c =
    let w = c.in-Some.word.now in
    let old = c.loop-word.invariant in
    (w ∷ old.0, read_more _ _ old.0 _ w c.in-Some.ensures.steps old.1, indexed_more _ old.0 w (omega arith) old.2)
