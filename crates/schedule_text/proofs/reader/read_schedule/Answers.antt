use Rattle.std.proofs.Common.{◌≡◌, Some, Err, vec_items, sym, ap, ◌∙◌, arith}
use Rattle.std.specs.Option.{option_map}
use Rattle.std.proofs.lemmas.Result.{err_from_is_err_and}
use Rattle.schedule_text.specs.declared.reader.TheConstants.{FIRST_STEP}
use Rattle.schedule_text.specs.declared.types.Fault.{Fault}
use Rattle.schedule_text.specs.Reading.{rule_line, values_line, read_text, pieces, steps_from, at_least_one}
use Rattle.lists.proofs.Results.{ok_or_error, ok_or_value}
use Rattle.schedule_text.proofs.Whole.{too_long, assemble, lacks_first, first_is_wrong, lacks_second, second_is_wrong, then_steps, steps_fail}
use Rattle.schedule_text.proofs.reader.read_schedule.Goals as goal
use Rattle.schedule_text.proofs.reader.read_schedule.Goals.{In_ok-rule, After-read_steps}

pub returns-then-text-gt-MAX_BYTES-clause-reads : goal.returns-then-text-gt-MAX_BYTES-clause-reads
returns-then-text-gt-MAX_BYTES-clause-reads c = too_long c.args.text.now c.if-text-gt-MAX_BYTES.true

pub returns-in_err-first-clause-reads : goal.returns-in_err-first-clause-reads
returns-in_err-first-clause-reads c =
    let p = err_from_is_err_and c.from_residual.result c.from_residual.ensures.1 in
    let told = c.in_err-first.ensures.cut in
    rw (p.1, p.2) (lacks_first c.args.text.now (omega arith) told.1 ∙ ap (λ (f : Fault). Err f) (sym told.0))

pub returns-in_err-rule-clause-reads : goal.returns-in_err-rule-clause-reads
returns-in_err-rule-clause-reads c =
    let p = err_from_is_err_and c.from_residual-in_err-rule.result c.from_residual-in_err-rule.ensures.1 in
    let or = ok_or_error c.rule_line.result _ c.in_err-rule.field-0.0 c.in_err-rule.ensures.value in
    rw (p.1, p.2) (first_is_wrong c.args.text.now (omega arith) c.in_ok-first.first.now c.in_ok-first.rest.now c.in_ok-first.ensures.cut
    (sym or.0 ∙ c.rule_line.ensures) ∙ ap (λ (f : Fault). Err f) or.1)

-- the first line is right
ruled : (c : In_ok-rule) → Some c.in_ok-rule.rule ≡ rule_line c.in_ok-first.first.now
ruled c = ok_or_value c.rule_line.result _ _ c.in_ok-rule.ensures.value ∙ c.rule_line.ensures

pub returns-in_err-second-clause-reads : goal.returns-in_err-second-clause-reads
returns-in_err-second-clause-reads c =
    let p = err_from_is_err_and c.from_residual-in_err-second.result c.from_residual-in_err-second.ensures.1 in
    let told = c.in_err-second.ensures.cut in
    rw (p.1, p.2) (lacks_second c.args.text.now (omega arith) c.in_ok-first.first.now c.in_ok-first.rest.now c.in_ok-first.ensures.cut c.in_ok-rule.rule
    (ruled (goal.at.returns-in_err-second-clause-reads c).In_ok-rule) told.1 ∙ ap (λ (f : Fault). Err f) (sym told.0))

pub returns-in_err-values-clause-reads : goal.returns-in_err-values-clause-reads
returns-in_err-values-clause-reads c =
    let p = err_from_is_err_and c.from_residual-in_err-values.result c.from_residual-in_err-values.ensures.1 in
    let or = ok_or_error c.in_ok-values_line.field-0 _ c.in_err-values.field-0.0 c.in_err-values.ensures.value in
    rw (p.1, p.2) (second_is_wrong c.args.text.now (omega arith) c.in_ok-first.first.now c.in_ok-first.rest.now c.in_ok-first.ensures.cut c.in_ok-rule.rule
    (ruled (goal.at.returns-in_err-values-clause-reads c).In_ok-rule) c.in_ok-second.second.now c.in_ok-second.rest.now c.in_ok-second.ensures.cut
    (ap (option_map vec_items) (sym or.0) ∙ c.in_ok-values_line.ensures) ∙ ap (λ (f : Fault). Err f) or.1)

-- both lines are right, and the steps decide
steps_decide : (c : After-read_steps) → read_text c.args.text.now ≡ assemble c.in_ok-rule.rule (vec_items c.in_ok-values.values)
    (at_least_one (steps_from FIRST_STEP (pieces 10 c.in_ok-second.rest.now)))
steps_decide c =
    let values : Some (vec_items c.in_ok-values.values) ≡ values_line c.in_ok-second.second.now =
    ap (option_map vec_items) (ok_or_value c.in_ok-values_line.field-0 _ _ c.in_ok-values.ensures.value) ∙ c.in_ok-values_line.ensures in
    then_steps c.args.text.now (omega arith) c.in_ok-first.first.now c.in_ok-first.rest.now c.in_ok-first.ensures.cut c.in_ok-rule.rule
    (ok_or_value c.rule_line.result _ _ c.in_ok-rule.ensures.value
    ∙ c.rule_line.ensures) c.in_ok-second.second.now c.in_ok-second.rest.now c.in_ok-second.ensures.cut (vec_items c.in_ok-values.values) values

pub returns-in_err-steps-clause-reads : goal.returns-in_err-steps-clause-reads
returns-in_err-steps-clause-reads c =
    let p = err_from_is_err_and c.from_residual-in_err-steps.result c.from_residual-in_err-steps.ensures.1 in
    rw (p.1, p.2) (steps_fail c.args.text.now (omega arith) c.in_ok-second.rest.now c.in_ok-rule.rule (vec_items c.in_ok-values.values)
    (steps_decide (goal.at.returns-in_err-steps-clause-reads c).After-read_steps) c.in_err-steps.field-0.0 c.in_err-steps.ensures)

pub returns-clause-reads : goal.returns-clause-reads
returns-clause-reads c = steps_decide (goal.at.returns-clause-reads c).After-read_steps
    ∙ ap (assemble c.in_ok-rule.rule (vec_items c.in_ok-values.values)) c.in_ok-steps.ensures
