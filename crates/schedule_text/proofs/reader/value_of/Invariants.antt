use Rattle.std.proofs.Common.{◌≡◌, drop}
use Rattle.schedule_text.specs.Reading.{digits_after}
use Rattle.schedule_text.proofs.reader.value_of.Given as goal

-- what is left to read makes of the value so far what all digits write
abbrev pub invariant-loop-byte : goal.invariant-loop-byte
invariant-loop-byte l = digits_after l.value (drop l.byte-index l.digits) ≡ digits_after 0 l.digits
