use Rattle.std.proofs.Common.{◌≡◌, ◌-◌, ◌≤◌, ◌++◌, length}
use Rattle.protocol.specs.Calls.{frames_from}
use Rattle.shed_core.proofs.shed.Shed.gather.Given as goal

-- the frames so far and those to the receivers that are left are all of them
abbrev pub invariant-loop-q : goal.invariant-loop-q
invariant-loop-q g l =
    let R = g.R.Rule.behaviour l.rule in
    (length l.frames.items ≤ l.q) ×
    (l.frames.items ++ frames_from R l.self.count l.p l.round l.state l.q (l.self.count - l.q) ≡ frames_from R l.self.count l.p l.round l.state 0 l.self.count)
