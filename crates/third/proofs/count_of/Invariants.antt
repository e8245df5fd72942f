use Rattle.std.proofs.Common.{◌≡◌, ◌≤◌, take}
use Rattle.third_rule.specs.Third.{occurs}
use Rattle.third.proofs.count_of.Given as goal

abbrev pub invariant-loop-place : goal.invariant-loop-place
invariant-loop-place l = (l.count ≤ l.place-index) × (l.count ≡ occurs l.value (take l.place-index l.mailbox))
