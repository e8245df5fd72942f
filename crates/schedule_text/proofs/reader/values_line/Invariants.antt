use Rattle.std.proofs.Common.{length, drop, vec_items}
use Rattle.schedule_text.proofs.Values.{ReadSoFar, words}
use Rattle.schedule_text.proofs.reader.values_line.Given as goal

abbrev pub invariant-loop-digits : goal.invariant-loop-digits
invariant-loop-digits l = ReadSoFar (words l.line) (vec_items l.values) (drop (length l.yielded) (words l.line))
