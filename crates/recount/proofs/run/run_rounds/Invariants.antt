use Rattle.std.proofs.Common.{◌≡◌}
use Rattle.recount.specs.Recount.{recounted}
use Rattle.recount.proofs.run.run_rounds.Given as goal

-- the run at round k, over the cells as they were lent
abbrev pub invariant-loop-k : goal.invariant-loop-k
invariant-loop-k g l = l.states ≡ recounted (g.R.Rule.behaviour l.rule) l.values l.book l.k l.fn.states
