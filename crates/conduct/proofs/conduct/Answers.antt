use Rattle.std.proofs.Common.{ℕ, ◌^◌, ◌<◌, length, get_or}
use Rattle.std.proofs.lemmas.Result.{err_from_is_err_and}
use Rattle.conduct.proofs.Conducting.{carried_out, halted}
use Rattle.conduct.proofs.conduct.Goals as goal

pub returns-in_err-open-clause-conducted : goal.returns-in_err-open-clause-conducted
returns-in_err-open-clause-conducted g c =
    let a = c.args in
    let p = err_from_is_err_and c.from_residual.result c.from_residual.ensures.1 in
    rw (p.1, p.2) (halted (g.R.Rule.behaviour a.rule.now) a.values.now a.steps.now c.new-shed.result c.open.new.self a.buffers.now c.open.new.buffers
    c.new-shed.ensures c.open.result c.open.ensures.call c.in_err-open.field-0.0 a.outcomes.now c.in_err-open.was)

pub returns-clause-conducted : goal.returns-clause-conducted
returns-clause-conducted g c =
    let rule = c.args.rule.now in
    let a = c.args in
    let ran = c.take_steps.new in
    let small : (p : ℕ) → p < length a.values.now → get_or a.values.now p 0 < 2 ^ 16 = λ p h. (c.type_inv.values p).fits in
    carried_out (g.R.Rule.behaviour rule) a.values.now a.steps.now c.new-shed.result c.open.new.self a.buffers.now c.open.new.buffers
    c.new-shed.ensures c.open.result c.open.ensures.call (g.met.R.Rule.interface rule) (g.met.R.Rule.laws rule) (g.met.R.Rule.ranges rule) small
    c.in_ok-open.field-0 ran.shed ran.buffers a.outcomes.now ran.outcomes c.in_ok-open.was c.take_steps.ensures.leaves c.take_steps.ensures.tells
