use Rattle.std.proofs.Common.{◌≡◌, drop}
use Rattle.lists.specs.Lists.{put}
use Rattle.shed_core.specs.Of.{world}
use Rattle.peer_bridge.specs.Requests.{left_by, replies_to}
use Rattle.peer_bridge.proofs.make_all.Given as goal

-- what the requests that are left reply and leave is what all do
abbrev pub invariant-loop-i : goal.invariant-loop-i
invariant-loop-i g l =
    let R = g.R.Rule.behaviour l.rule in
    let w = world l.shed l.states l.letters l.pool l.book in
    let first = world l.initial.shed l.initial.states l.initial.letters l.initial.pool l.initial.book in
    record {
      leaves : left_by R l.values w (drop l.i l.requests) ≡ left_by R l.values first l.requests;
      replies : put l.replies l.i (replies_to R l.values w (drop l.i l.requests)) ≡ put l.initial.replies 0 (replies_to R l.values first l.requests);
    }
