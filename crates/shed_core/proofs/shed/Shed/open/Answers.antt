use Rattle.std.proofs.Common.{◌≡◌, ℕ, ◌≤◌, length, get_or, None, refl, ap, ◌∙◌, arith}
use Rattle.std.proofs.lemmas.Bool.Decides.{nat_tests}
use Rattle.std.proofs.lemmas.List.{length-replicate}
use Rattle.lists.proofs.Tables.{put_table}
use Rattle.protocol.specs.Calls.{open_refusal, opened}
use Rattle.shed_core.proofs.Stations.{blanks_sound}
use Rattle.shed_core.proofs.Worlds.{same_world, accepted}
use Rattle.shed_core.specs.Of.{world_of}
use Rattle.shed_core.proofs.shed.Shed.open.Goals as goal

pub returns-clause-call : goal.returns-clause-call
returns-clause-call g c =
    let R = g.R.Rule.behaviour c.args.rule.now in
    let values = c.args.values.now in
    let b = c.args.buffers.now in
    let w = world_of c.args.self.now b in
    let none : open_refusal R w values ≡ None = c.in_ok-openable.ensures in
    let enough : length values ≤ length b.states.now = grind (arith, nat_tests, none) in
    let first : ℕ → _ = λ (p : ℕ). R.first (length values) p (get_or values p 0) in
    accepted w (opened R w values) _ (length values) (open_refusal R w values) none
    (same_world refl (ap length c.clear.ensures ∙ length-replicate (length b.pool.now) 0)
    (ap length c.clear-2.ensures ∙ length-replicate (length b.book.now) 0) refl refl
    c.new.ensures (c.first_states.ensures ∙ put_table (length values) first b.states.now enough) refl c.clear.ensures c.clear-2.ensures)

pub invariant_of-self-clause-sound : goal.invariant_of-self-clause-sound
invariant_of-self-clause-sound g c = blanks_sound (length c.args.values.now) c.new.result.records c.new.ensures
