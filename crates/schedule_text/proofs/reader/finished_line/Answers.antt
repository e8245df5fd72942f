use Rattle.std.proofs.Common.{sym, ap, ◌∙◌}
use Rattle.std.proofs.lemmas.List.{take_rest}
use Rattle.std.proofs.lemmas.Result.{err_from_is_err_and}
use Rattle.lists.proofs.Results.{ok_or_error, ok_or_value}
use Rattle.schedule_text.proofs.Cutting.{cut_at, first_cut}
use Rattle.schedule_text.proofs.reader.finished_line.Goals as goal

pub returns-in_err-end-clause-cut : goal.returns-in_err-end-clause-cut
returns-in_err-end-clause-cut c =
    let or = ok_or_error c.line_end.result _ c.in_err-end.field-0.0 c.in_err-end.ensures.value in
    let p = err_from_is_err_and c.from_residual.result c.from_residual.ensures.1 in
    rw (p.1, p.2) (sym or.1, first_cut 10 c.args.text.now ∙ ap (cut_at 10 c.args.text.now) (sym c.line_end.ensures ∙ or.0))

pub returns-clause-cut : goal.returns-clause-cut
returns-clause-cut c =
    simp take_rest (first_cut 10 c.args.text.now
    ∙ ap (cut_at 10 c.args.text.now) (sym (ok_or_value c.line_end.result _ _ c.in_ok-end.ensures.value ∙ c.line_end.ensures)))
