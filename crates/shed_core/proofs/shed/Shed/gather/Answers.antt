use Rattle.std.proofs.Common.{◌≡◌, sym, arith}
use Rattle.frames.specs.Frame.{frame_word}
use Rattle.std.proofs.lemmas.Bool.Decides.{nat_tests}
use Rattle.shed_core.proofs.Gather.{none_more, some_more}
use Rattle.shed_core.proofs.shed.Shed.gather.Goals as goal
use Rattle.shed_core.proofs.shed.Shed.gather.Goals.{in-Some, in_default}

pub loop-q-preserved : goal.loop-q-preserved
loop-q-preserved g c =
    let R = g.R.Rule.behaviour c.args.rule.now in
    let n = c.args.self.now.count in
    let p = c.args.p in
    let k = c.args.round in
    let s = c.args.state.now in
    let q = c.loop-q.q in
    let frames = c.loop-q.frames.items in
    elim c.match-letter.branch [
      | in-Some w ↦
          let word : w.unwrap.result ≡ frame_word R (p, q, k, w.in-Some.letter) = grind (arith, nat_tests) in
          let e = some_more R n p k s q c.loop-q-test.true frames _ c.loop-q.invariant.1 w.in-Some.letter w.unwrap.result (sym w.in-Some.ensures) word in
          (rw w.frames-is (omega (arith, w.push.ensures.len, c.loop-q.invariant.0)), rw (w.frames-is, w.push.ensures.items) e)
      | in_default w ↦
          let e = none_more R n p k s q c.loop-q-test.true frames _ c.loop-q.invariant.1 (sym w.in_default.ensures) in
          (rw w.frames-is (omega (arith, c.loop-q.invariant.0)), rw w.frames-is e)
    ]
