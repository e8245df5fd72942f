use Rattle.std.proofs.Common.{◌≡◌, suc, ◌+◌, ◌∷◌, ◌++◌, [], Err, vec_items, vec_len, sym, ap, ◌∙◌, arith, true-eqb, false-eqb}
use Rattle.schedule_text.specs.declared.reader.TheConstants.{FIRST_STEP}
use Rattle.schedule_text.specs.declared.types.Fault.TheVariants.{WrongStep}
use Rattle.schedule_text.specs.Reading.{pieces, steps_from}
use Rattle.schedule_text.proofs.Steps.{prepend, stops_wrong, goes_on, ends_some}
use Rattle.schedule_text.proofs.reader.read_steps.Goals as goal

pub loop-step-preserved : goal.loop-step-preserved
loop-step-preserved c =
    let k = vec_len c.loop-step.steps + FIRST_STEP in
    let xs = vec_items c.loop-step.steps in
    let s = c.in-Some.step in
    let left = pieces 10 c.in-Some.later.now in
    let one : vec_len c.push.new.self + FIRST_STEP ≡ suc k = omega (arith, c.in_ok-push.ensures.len) in
    let first = c.in-Some.ensures.step in
    let on = goes_on c.args.text.now _ xs k (omega arith) c.loop-step.invariant.read first.line _ s first.cut first.is in
    record {
      read = ap (λ l. prepend l (steps_from (vec_len c.push.new.self + FIRST_STEP) left)) c.in_ok-push.ensures.items
          ∙ ap (λ n. prepend (xs ++ s ∷ []) (steps_from n left)) one ∙ on;
      short = omega (arith, c.in_ok-push.ensures.len, c.loop-step.invariant.short, c.in-Some.ensures.shorter);
    }

pub returns-then-not-is_empty : goal.returns-then-not-is_empty
returns-then-not-is_empty c =
    ends_some c.args.text.now _ (vec_items c.loop-step.steps) (vec_len c.loop-step.steps + FIRST_STEP) (omega arith) c.loop-step.invariant.read
    (true-eqb _ 0 c.if-is_empty.ensures) (omega (arith, c.loop-step.steps.ok.0, false-eqb c.loop-step.steps.len 0 c.if-not-is_empty.ensures))

pub returns : goal.returns
returns c =
    let none = c.in_default.ensures.step c.in_ok-_line._line.0.now c.in_ok-_line._line.1.now c.in_ok-_line.ensures.cut in
    let k = vec_len c.loop-step.steps + FIRST_STEP in
    stops_wrong c.args.text.now _ (vec_items c.loop-step.steps) k (omega arith) c.loop-step.invariant.read _ _ c.in_ok-_line.ensures.cut none ∙
    ap (λ n. Err (WrongStep (n + FIRST_STEP))) (sym c.len-number.ensures)
