use Rattle.std.proofs.Common.{◌≡◌, ◌≤◌, length, take, fold}
use Rattle.third_rule.specs.Third.{occurs, better}
use Rattle.third.proofs.commonest.Given as goal

-- the best so far is what the senders so far make of the own value, with its whole count
abbrev pub invariant-loop-sender : goal.invariant-loop-sender
invariant-loop-sender l =
    (l.best ≡ fold (better l.mailbox) l.own (take l.sender l.mailbox)) × (l.most ≡ occurs l.best l.mailbox) × (l.most ≤ length l.mailbox)
