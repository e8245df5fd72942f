use Rattle.std.proofs.Common.{◌≡◌, ◌+◌, ◌++◌, drop, vec_items}
use Rattle.schedule_text.specs.declared.reader.TheConstants.{FIRST_STEP}
use Rattle.schedule.specs.Program.{refused_from}
use Rattle.schedule.proofs.running.refused_steps.Given as goal

abbrev pub invariant-loop-i : goal.invariant-loop-i
invariant-loop-i l = vec_items l.refused ++ refused_from (l.i + FIRST_STEP) (drop l.i l.refusals) ≡ refused_from FIRST_STEP l.refusals
