use Rattle.std.proofs.Common.{◌≡◌, drop}
use Rattle.lists.specs.Lists.{put}
use Rattle.shed_core.specs.Of.{world_of, StillLent}
use Rattle.protocol.specs.Steps.{after, refusals}
use Rattle.conduct.proofs.steps.take_steps.Given as goal

-- what the steps that are left leave and tell is what all leave and tell
abbrev pub invariant-loop-i : goal.invariant-loop-i
invariant-loop-i g l =
    let R = g.R.Rule.behaviour l.rule in
    let w = world_of l.shed l.buffers in
    let first = world_of l.initial.shed l.initial.buffers in
    record {
      leaves : after R w (drop l.i l.steps) ≡ after R first l.steps;
      tells : put l.outcomes l.i (refusals R w (drop l.i l.steps)) ≡ put l.initial.outcomes 0 (refusals R first l.steps);
      lent : StillLent l.initial.buffers l.buffers;
    }
