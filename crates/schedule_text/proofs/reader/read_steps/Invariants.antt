use Rattle.std.proofs.Common.{◌≡◌, ◌+◌, ◌≤◌, length, vec_items, vec_len}
use Rattle.schedule_text.specs.declared.reader.TheConstants.{FIRST_STEP}
use Rattle.schedule_text.specs.Reading.{pieces, steps_from}
use Rattle.schedule_text.proofs.Steps.{prepend}
use Rattle.schedule_text.proofs.reader.read_steps.Given as goal

abbrev pub invariant-loop-step : goal.invariant-loop-step
invariant-loop-step l = record {
  read : prepend (vec_items l.steps) (steps_from (vec_len l.steps + FIRST_STEP) (pieces 10 l.rest)) ≡ steps_from FIRST_STEP (pieces 10 l.text);
  short : vec_len l.steps + length l.rest ≤ length l.text;
}

abbrev pub decreases-loop-step : goal.decreases-loop-step
decreases-loop-step l = length l.rest
