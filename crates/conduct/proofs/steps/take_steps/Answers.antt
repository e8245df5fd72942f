use Rattle.std.proofs.Common.{◌≡◌, set, sym, ◌∙◌, rules}
use Rattle.std.proofs.lemmas.List.{set_past}
use Rattle.shed_core.specs.Of.{world_of}
use Rattle.conduct.proofs.StepByStep.{after_more, refusals_more, after_all, refusals_all}
use Rattle.conduct.proofs.steps.take_steps.Goals as goal
use Rattle.conduct.proofs.steps.take_steps.Goals.{then-i-outcomes, else-i-outcomes}

pub loop-i-preserved : goal.loop-i-preserved
loop-i-preserved g c =
    let R = g.R.Rule.behaviour c.args.rule.now in
    let w = world_of c.loop-i.shed c.loop-i.buffers in
    let last = c.take_step.new in
    let v = world_of last.shed last.buffers in
    let i = c.loop-i.i in
    let xs = c.loop-i.outcomes in
    let x = c.err-outcome.result in
    let wrote : c.if-i-outcomes.outcomes ≡ set xs i x = elim c.if-i-outcomes.branch [
      | then-i-outcomes w ↦ w.outcomes-is
      | else-i-outcomes w ↦ w.outcomes-is ∙ sym (set_past xs i x w.if-i-outcomes.false)
    ] in
    let call = c.take_step.ensures.call in
    let told = c.err-outcome.ensures.value in
    record {
      leaves = after_more R w v c.args.steps.now i _ c.loop-i-test.true _ x call told xs _ wrote _ c.loop-i.invariant.leaves;
      tells = refusals_more R w v c.args.steps.now i _ c.loop-i-test.true _ x call told xs _ wrote _ c.loop-i.invariant.tells;
      lent = search rules;
    }

pub returns : goal.returns
returns g c =
    let R = g.R.Rule.behaviour c.args.rule.now in
    let w = world_of c.loop-i.shed c.loop-i.buffers in
    record {
      leaves = after_all R w _ c.args.steps.now c.loop-i.i c.loop-i-test.false c.loop-i.invariant.leaves;
      tells = refusals_all R w c.loop-i.outcomes _ c.args.steps.now c.loop-i.i c.loop-i-test.false c.loop-i.invariant.tells;
      lent = search rules;
    }
