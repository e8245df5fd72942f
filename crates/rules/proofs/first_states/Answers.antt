use Rattle.std.proofs.Common.{ℕ, length, get_or, refl, arith}
use Rattle.lists.proofs.Tables.{put_table_more}
use Rattle.std.proofs.lemmas.List.{set_past}
use Rattle.rules.proofs.first_states.Goals as goal

-- the next cell is written, or would lie past the end
pub loop-station-preserved : goal.loop-station-preserved
loop-station-preserved g c =
    let values = c.args.values.now in
    let p = c.loop-station.station in
    let f = λ (k : ℕ). (g.R.Rule.behaviour c.args.rule.now).first (length values) k (get_or values k 0) in
    let more = put_table_more p f c.args.states.now c.loop-station.states (f p) c.loop-station.invariant refl in
    let past = set_past c.loop-station.states p (f p) in
    grind (arith, more, past)
