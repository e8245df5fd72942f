use Rattle.std.proofs.Common.{◌≡◌, ◌+◌, ◌==◌, Some, drop, take, sym, ap, ◌∙◌, arith}
use Rattle.std.specs.List.{position}
use Rattle.std.proofs.lemmas.Grind.{common_steps}
use Rattle.std.proofs.lemmas.List.{take_rest}
use Rattle.lists.proofs.Options.{none_some, same_some}
use Rattle.schedule_text.specs.declared.reader.TheConstants.{SHORTEST_STEP}
use Rattle.schedule_text.specs.Reading.{step_line}
use Rattle.schedule_text.proofs.NextStep.{step_cut, no_step}
use Rattle.schedule_text.proofs.reader.next_step.Goals as goal

pub returns-in_err-get-clause-step : goal.returns-in_err-get-clause-step
returns-in_err-get-clause-step c = rw c.from_residual.ensures (no_step c.args.text.now (λ i s long at e. grind arith))

pub returns-in_err-end-clause-step : goal.returns-in_err-end-clause-step
returns-in_err-end-clause-step c =
    let from : c.in_ok-get.field-0.now ≡ drop SHORTEST_STEP c.args.text.now = grind (arith, common_steps) in
    rw c.from_residual-in_err-end.ensures (no_step c.args.text.now
    (λ i s long at e. none_some (c.in_err-end.ensures ∙ ap (position (λ b. b == 10)) from ∙ at)))

pub returns-in_err-step-clause-step : goal.returns-in_err-step-clause-step
returns-in_err-step-clause-step c =
    let text = c.args.text.now in
    let from : c.in_ok-get.field-0.now ≡ drop SHORTEST_STEP text = grind (arith, common_steps) in
    rw c.from_residual-in_err-step.ensures (
    no_step text (
    λ i s long at e.
    let same : c.in_ok-end.field-0 ≡ i = same_some (c.in_ok-end.ensures ∙ ap (position (λ b. b == 10)) from ∙ at) in
    none_some (c.in_err-step.ensures ∙ ap (λ n. step_line (take (SHORTEST_STEP + n) text)) same ∙ e)
    )
    )

pub returns-clause-step : goal.returns-clause-step
returns-clause-step c =
    let text = c.args.text.now in
    let from : c.in_ok-get.field-0.now ≡ drop SHORTEST_STEP text = grind (arith, common_steps) in
    let at : position (λ b. b == 10) (drop SHORTEST_STEP text) ≡ Some c.in_ok-end.field-0 = sym (c.in_ok-end.ensures ∙ ap (position (λ b. b == 10)) from) in
    simp take_rest (record {
      line = take (SHORTEST_STEP + c.in_ok-end.field-0) text;
      cut = step_cut text c.in_ok-end.field-0 c.in_ok-step.step at (sym c.in_ok-step.ensures);
      is = c.in_ok-step.ensures;
    })
