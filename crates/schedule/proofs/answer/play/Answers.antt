use Rattle.std.proofs.Common.{◌≡◌, length, Ok, vec_items, ap, subst, arith}
use Rattle.catalogue.specs.Catalogue.{behaviour_of, states_of, letters_of}
use Rattle.schedule_text.specs.Reading.{plan}
use Rattle.schedule.specs.Program.{new_shed}
use Rattle.schedule.specs.Running.{Runs, Plays}
use Rattle.std.proofs.lemmas.Result.{IfOk-weaker}
use Rattle.schedule.proofs.Answered.{not_refused, plays}
use Rattle.schedule.proofs.answer.play.Goals as goal

pub unrefused-requires : goal.unrefused-requires
unrefused-requires c =
    let same = ap length c.as_slice-values.ensures.value in
    not_refused c.args.schedule.now.rule c.as_slice-values.result.now (omega (arith, same, c.requires.some_values)) (omega (arith, same, c.requires.few_values))
    c.as_slice-steps.result.now c.with_rule-out.result c.with_rule-out.ensures.does

pub returns : goal.returns
returns c =
    let p = plan c.args.schedule.now in
    let out = c.with_rule-out.result in
    let steps = c.as_slice-steps.result.now in
    let new = new_shed (states_of p.rule) (letters_of p.rule) in
    let ran = subst (λ l. Runs (behaviour_of p.rule) new p.values l out) c.as_slice-steps.ensures.value
    (subst (λ l. Runs (behaviour_of p.rule) new l steps out) c.as_slice-values.ensures.value c.with_rule-out.ensures.does) in
    IfOk-weaker c.unrefused.result (λ v. out ≡ Ok v) (λ v. Plays p (vec_items v)) (λ v. plays p out v ran) c.unrefused.ensures
