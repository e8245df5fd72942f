use Rattle.std.proofs.Common.{◌≡◌}
use Rattle.lists.specs.Lists.{written}
use Rattle.recount.specs.Recount.{letter_in}
use Rattle.recount.proofs.advance.LockstepRound.hear.Given as goal

-- the letters of the senders so far
abbrev pub invariant-loop-sender : goal.invariant-loop-sender
invariant-loop-sender g l = l.place-items ≡ written l.sender
    (letter_in (g.R.Rule.behaviour l.self.rule.now) l.self.n l.self.round l.self.heard.now l.self.states.now l.receiver) l.initial.place-items
