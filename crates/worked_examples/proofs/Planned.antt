-- Which schedule is read from the text of two steps.
use Rattle.std.specs.Prelude.{◌≡◌, Ok, Err, Result}
use Rattle.std.proofs.Common.{arith, sym, ◌∙◌}
use Rattle.schedule_text.specs.declared.types.Fault.{Fault}
use Rattle.schedule_text.specs.declared.types.Schedule.{Schedule}
use Rattle.schedule_text.specs.declared.halt.Halt.{Halt}
use Rattle.schedule_text.specs.declared.halt.Halt.TheVariants.{Refused, NoMemory}
use Rattle.schedule_text.specs.Reading.{Reads, plan}
use Rattle.worked_examples.specs.Texts.{IsPlanned, two_steps, two_steps_plan}
use Rattle.worked_examples.proofs.Computed.{texts}

pub planned : (read : Result Schedule (Halt Fault)) → Reads two_steps read → IsPlanned two_steps_plan read
planned (Ok s) e = let same : Ok (plan s) ≡ Ok two_steps_plan = sym e ∙ texts.reads in grind (arith, same)
planned (Err (Refused f)) e = let same : Err f ≡ Ok two_steps_plan = sym e ∙ texts.reads in absurd (grind (arith, same))
planned (Err NoMemory) e = tt
