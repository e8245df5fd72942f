use Rattle.std.proofs.Common.{◌+◌, ◌++◌, drop, vec_items, sym, ap, ◌∙◌, append-nil}
use Rattle.std.proofs.lemmas.List.{at_drop_all}
use Rattle.schedule_text.specs.declared.reader.TheConstants.{FIRST_STEP}
use Rattle.schedule.specs.Program.{refused_from}
use Rattle.schedule.proofs.Played.{refused_not, refused_more}
use Rattle.schedule.proofs.running.refused_steps.Goals as goal
use Rattle.schedule.proofs.running.refused_steps.Goals.{in-Some+in_ok-push, in_default}

pub loop-i-preserved : goal.loop-i-preserved
loop-i-preserved c =
    let refusals = c.args.refusals.now in
    let i = c.loop-i.i in
    let whole = refused_from FIRST_STEP refusals in
    elim c.match-outcome.branch [
      | in-Some+in_ok-push w ↦ refused_more refusals i c.loop-i-test.true (vec_items c.loop-i.refused) whole c.loop-i.invariant w.in-Some.refusal
          (vec_items c.match-outcome.refused) w.in-Some.is (ap vec_items w.refused-is ∙ w.in_ok-push.ensures.items)
      | in_default w ↦ ap (λ v. vec_items v ++ refused_from (i + 1 + FIRST_STEP) (drop (i + 1) refusals)) w.refused-is
          ∙ refused_not refusals i c.loop-i-test.true (vec_items c.loop-i.refused) whole c.loop-i.invariant w.in_default.is
    ]

pub returns : goal.returns
returns c =
    let refused = vec_items c.loop-i.refused in
    sym (append-nil refused) ∙ ap (λ l. refused ++ l)
    (sym (at_drop_all (refused_from (c.loop-i.i + FIRST_STEP)) c.args.refusals.now c.loop-i.i c.loop-i-test.false)) ∙ c.loop-i.invariant
