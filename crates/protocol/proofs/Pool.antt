-- An accepted drop or repeat keeps the invariant.
use Rattle.std.proofs.Common.{◌≡◌, ℕ, ◌+◌, ◌-◌, ◌<◌, ◌≤◌, false, eqb, List, [], ◌∷◌, ◌++◌, length, get_or, set, sym, inl, inr, arith}
use Rattle.std.proofs.lemmas.List.{length_push, get_or_push, get_or_append_left, get_or-set_same, get_or-set_other}
use Rattle.std.proofs.lemmas.Bool.{cases_eq, leb-false, eqb-false}
use Rattle.rules.specs.Rule.{Behaviour}
use Rattle.frames.specs.Pool.{take_out}
use Rattle.protocol.specs.declared.types.Step.TheVariants.{Drop, Repeat}
use Rattle.protocol.specs.World.{World}
use Rattle.protocol.specs.Steps.{step}
use Rattle.protocol.specs.Calls.{taking_tests, repeat_tests, with_pool, without_frame}
use Rattle.protocol.specs.Tally.{Tally, Slip, nowhere, swap_out, tally_accepted}
use Rattle.protocol.proofs.TakenOut.{length_out, origin}
use Rattle.protocol.proofs.Change.{pool_changed}
use Rattle.protocol.proofs.Invariant.{Inv, Matched, matched, Follows, attempted}
use Rattle.protocol.proofs.Outcomes.{none_holds}

module _ {S L : Type 0} (R : Behaviour S L) (values : List ℕ) (B : ℕ) (w : World S L) (t : Tally) (i : Inv R values B w t) where
  -- the frame at place k leaves the pool
  pub frame_out :
      (k : ℕ) → k < w.frames → Matched R w →
      Inv R values B (without_frame R w k) (record t { slips = swap_out nowhere t.slips k })
  frame_out k h m =
      let ex : length t.slips ≡ w.frames = sym i.frames_are in
      let ey : w.frames ≤ length w.pool = omega (arith, i.room, m.pool) in
      let len : length (swap_out nowhere t.slips k) ≡ w.frames - 1 = length_out nowhere 0 t.slips w.pool w.frames k ex ey h in
      pool_changed R values B w t i (w.frames - 1) (take_out 0 w.pool w.frames k) (swap_out nowhere t.slips k) (sym len) (omega (arith, i.room)) (λ j l.
      let o = origin nowhere 0 t.slips w.pool w.frames k ex ey h j (rw len at l) in
      rw (o.left, o.right) (i.carried o.place (omega (arith, o.within, i.frames_are))))

  pub dropped : (k : ℕ) → Follows R values B (step R w (Drop k)).0 (step R w (Drop k)).1 t (tally_accepted R values t (Drop k))
  unfolding step tally_accepted
  dropped k = attempted R values B w (without_frame R w k) _ 0 t (tally_accepted R values t (Drop k)) i (λ fine.
      let b = none_holds (taking_tests R w k) fine in
      frame_out k (leb-false w.frames k (b 2)) (matched R w (b 1)))

  frame_in :
      (k : ℕ) → k < w.frames → Matched R w → w.frames < w.pool_len →
      Inv R values B (with_pool R w (w.frames + 1) (set w.pool w.frames (get_or w.pool k 0)))
      (record t { slips = t.slips ++ (get_or t.slips k nowhere ∷ []) })
  frame_in k h m free =
      let s : Slip = get_or t.slips k nowhere in
      pool_changed R values B w t i (w.frames + 1) (set w.pool w.frames (get_or w.pool k 0)) (t.slips ++ (s ∷ []))
      (rw length_push (omega (arith, i.frames_are))) (omega arith) (λ j l. elim (cases_eq j w.frames) [
        | inl e ↦ rw (
          e,
          get_or_push t.slips s nowhere w.frames (sym i.frames_are),
          get_or-set_same w.pool w.frames (get_or w.pool k 0) 0 (omega (arith, m.pool)),
        )
            (i.carried k (omega (arith, i.frames_are)))
        | inr e ↦
            let near : j < length t.slips = omega (arith, i.frames_are, rw length_push at l) in
            rw (get_or_append_left t.slips (s ∷ []) nowhere j near, get_or-set_other w.pool w.frames j (get_or w.pool k 0) 0 e) (i.carried j near)
      ])

  room_left : eqb w.frames w.pool_len ≡ false → w.frames < w.pool_len
  room_left e = omega (arith, i.room, eqb-false w.frames w.pool_len e)

  pub repeated : (k : ℕ) → Follows R values B (step R w (Repeat k)).0 (step R w (Repeat k)).1 t (tally_accepted R values t (Repeat k))
  unfolding step tally_accepted
  repeated k = attempted R values B w (with_pool R w (w.frames + 1) (set w.pool w.frames (get_or w.pool k 0))) _ w.frames t
      (tally_accepted R values t (Repeat k)) i (λ fine.
      let b = none_holds (repeat_tests R w k) fine in
      frame_in k (leb-false w.frames k (b 2)) (matched R w (b 1)) (room_left (b 3)))
