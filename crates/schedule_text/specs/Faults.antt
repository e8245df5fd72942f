-- The number and the line of each fault of a schedule's text.
use Rattle.std.specs.Prelude.{ℕ}
use Rattle.refusal_numbers.specs.declared.Reason.{Reason}
use Rattle.refusal_numbers.specs.declared.Reason.TheVariants as table
use Rattle.refusal_numbers.specs.Numbers.{number_of}
use Rattle.schedule_text.specs.declared.types.Fault.{Fault}
use Rattle.schedule_text.specs.declared.types.Fault.TheVariants.{TooLong, WrongRule, WrongValues, WrongStep, Unfinished}

abbrev pub reason : Fault → Reason
reason TooLong = table.TooLong
reason WrongRule = table.WrongRule
reason WrongValues = table.WrongValues
reason (WrongStep line) = table.WrongStep
reason (Unfinished line) = table.Unfinished

abbrev pub fault_number : Fault → ℕ
fault_number f = number_of (reason f)

abbrev pub fault_line : Fault → ℕ
fault_line TooLong = 0
fault_line WrongRule = 1
fault_line WrongValues = 2
fault_line (WrongStep line) = line
fault_line (Unfinished line) = line
