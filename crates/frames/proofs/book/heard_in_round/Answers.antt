use Rattle.std.proofs.Common.{rules, [], ◌∷◌, sym, ◌∙◌, arith}
use Rattle.frames.proofs.Sets.{sets_named, sets_passed, sets_empty, read_more}
use Rattle.frames.proofs.book.heard_in_round.Goals as goal

pub loop-word-init : goal.loop-word-init
loop-word-init c = ([], search rules, rw c.empty-sets.ensures.set (sym (sets_empty c.args.round)))

pub loop-word-preserved-then-round_in-round : goal.loop-word-preserved-then-round_in-round
loop-word-preserved-then-round_in-round c =
    let w = c.in-Some.word.now in
    let old = c.loop-word.invariant in
    let named = sets_named w old.0 c.args.round (omega arith) (omega arith) in
    (w ∷ old.0, read_more _ _ old.0 _ w c.in-Some.ensures.steps old.1, rw (named, old.2, c.station_in.ensures, c.senders_in.ensures))

pub loop-word-preserved : goal.loop-word-preserved
loop-word-preserved c =
    let w = c.in-Some.word.now in
    let old = c.loop-word.invariant in
    let passed = sets_passed w old.0 c.args.round (λ e. c.if-round_in-round.false (c.round_in.ensures ∙ e)) in
    (w ∷ old.0, read_more _ _ old.0 _ w c.in-Some.ensures.steps old.1, old.2 ∙ sym passed)
