-- Worked examples of the texts of schedules: one that is read, and the faults of others.
use Rattle.std.specs.Prelude.{◌≡◌, ℕ, List, [], ◌∷◌, Ok, Err, codes, Result}
use Rattle.catalogue.specs.declared.RuleName.TheVariants.{Third}
use Rattle.protocol.specs.declared.types.Step.TheVariants.{Send, Deliver}
use Rattle.schedule_text.specs.declared.types.Fault.{Fault}
use Rattle.schedule_text.specs.declared.types.Fault.TheVariants.{WrongRule, WrongValues, WrongStep, Unfinished}
use Rattle.schedule_text.specs.declared.types.Schedule.{Schedule}
use Rattle.schedule_text.specs.declared.halt.Halt.{Halt}
use Rattle.schedule_text.specs.declared.halt.Halt.TheVariants.{Refused, NoMemory}
use Rattle.schedule_text.specs.Reading.{Plan, plan, read_text}

abbrev pub two_steps : List ℕ
two_steps = codes "rule third\nvalues 9 7\ns 0\nd 12\n"

abbrev pub two_steps_plan : Plan
two_steps_plan = record { rule = Third; values = 9 ∷ 7 ∷ []; steps = Send 0 ∷ Deliver 12 ∷ [] }

-- the schedule has this plan, unless memory failed
abbrev pub IsPlanned : Plan → Result Schedule (Halt Fault) → Type 0
IsPlanned p (Ok s) = plan s ≡ p
IsPlanned p (Err (Refused f)) = ⊥
IsPlanned p (Err NoMemory) = Unit {0}

pub record TextExamples : Type 0 where
  pub reads : read_text two_steps ≡ Ok two_steps_plan
  pub no_text : read_text [] ≡ Err (Unfinished 1)
  pub lone_end : read_text (codes "\n") ≡ Err WrongRule
  pub no_steps : read_text (codes "rule last\nvalues 65535\n") ≡ Err (Unfinished 3)
  pub wrong_values : read_text (codes "rule last\nvalues 65536\nd") ≡ Err WrongValues
  pub wrong_step : read_text (codes "rule last\nvalues 1\ns 0\ns 01\nd") ≡ Err (WrongStep 4)
  pub cut_short : read_text (codes "rule last\nvalues 1\ns 0\ns 1") ≡ Err (Unfinished 4)
