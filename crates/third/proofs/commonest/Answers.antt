use Rattle.std.proofs.Common.{None, arith, rules}
use Rattle.std.proofs.lemmas.List.Sums.{fold_more}
use Rattle.third_rule.specs.Third.{better}
use Rattle.third.proofs.Counted.{goes, stays}
use Rattle.third.proofs.commonest.Goals as goal
use Rattle.third.proofs.commonest.Goals.{in-Some+then-l-best+then-goes_before, in-Some+then-l-best+else-goes_before, in-Some+else-l-best, in_default}

pub loop-sender-preserved : goal.loop-sender-preserved
loop-sender-preserved c =
    let m = c.args.mailbox.now in
    let i = c.loop-sender.sender in
    let here = c.loop-sender-test.true in
    let so_far = c.loop-sender.invariant in
    let more = fold_more (better m) c.args.own m i None here in
    elim c.match-place.branch [
      | in-Some+then-l-best+then-goes_before w ↦
          let best = goes m c.args.own i w.in-Some.l _ _ _ so_far.0 so_far.1 here (search rules) w.count_of-count.ensures.value (search rules) (search rules) in
          grind (arith, best.0, best.1, so_far)
      | in-Some+then-l-best+else-goes_before w ↦
          let best = stays m c.args.own i w.in-Some.l _ _ _ so_far.0 so_far.1 here (search rules) w.count_of-count.ensures.value (search rules)
          (search rules) in
          grind (arith, best, so_far)
      | in-Some+else-l-best w ↦ grind (arith, more)
      | in_default w ↦ grind (arith, more)
    ]
