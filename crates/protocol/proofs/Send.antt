-- An accepted send keeps the invariant: its frames are the tally's slips, and a held letter of the station's round is taken in.
use Rattle.std.proofs.Common.{◌≡◌, ℕ, zero, suc, ◌+◌, ◌-◌, ◌<◌, ◌≤◌, true, false, ◌&&◌, ◌||◌, eqb, ltb, List, ◌∷◌, ◌++◌, length, get_or, set, Some}
use Rattle.std.proofs.Common.{None, Option, sym, refl, ap, ◌∙◌, subst, inl, inr, arith}
use Rattle.std.proofs.lemmas.List.{length-append, get_or_append_left, get_or-append_right}
use Rattle.std.proofs.lemmas.Bool.{cases_eq, cases_lt, leb-false, ltb-false, eq-eqb, ne_eqb, true≢false, false≢true, and_right}
use Rattle.stations.specs.declared.TheConstants.{STATIONS}
use Rattle.stations.specs.declared.StationSet.{StationSet}
use Rattle.stations.specs.Stations.{contains, with_station}
use Rattle.stations.proofs.Laws.{set_laws}
use Rattle.rules.specs.Rule.{Behaviour, lockstep}
use Rattle.lists.specs.Lists.{put}
use Rattle.frames.specs.Frame.{frame_word}
use Rattle.protocol.specs.declared.types.Held.{Held}
use Rattle.protocol.specs.declared.types.StationRecord.{StationRecord}
use Rattle.protocol.specs.declared.types.Stand.{Stand}
use Rattle.protocol.specs.declared.types.Stand.TheVariants.{Fresh, Listening, Down}
use Rattle.protocol.specs.declared.types.Step.TheVariants.{Send}
use Rattle.protocol.specs.World.{World, station}
use Rattle.protocol.specs.Records.{is_fresh, is_listening, is_down, due}
use Rattle.protocol.specs.Rows.{row_cells, letter_cells, letter_cell, held_cell}
use Rattle.protocol.specs.Records.{listened}
use Rattle.protocol.specs.Steps.{step}
use Rattle.protocol.specs.Calls.{send_tests, with_pool, with_stations, with_letters, state_of, frames_from, frames_of, send_refusal, sent, taken_in}
use Rattle.protocol.specs.Tally.{Tally, Slip, heard_in, nowhere, slips_from, tally_accepted}
use Rattle.lists.proofs.Tables.{get_or_put_below, get_or_put_in}
use Rattle.lists.proofs.Places.{something_at}
use Rattle.protocol.proofs.Rows.{cell_within, cell_written, cell_kept}
use Rattle.lists.proofs.Options.{none_some}
use Rattle.protocol.proofs.Holds.{held_for_some, held_for_none}
use Rattle.protocol.proofs.Invariant.{Inv, Carry, Seated, Matched, matched, Follows, attempted}
use Rattle.protocol.proofs.Outcomes.{none_holds}
use Rattle.protocol.proofs.Change.{pool_changed, station_changed}

fresh_is : (x : Stand) → is_down x ≡ false → is_listening x ≡ false → is_fresh x ≡ true
fresh_is Fresh d l = refl
fresh_is Listening d l = absurd (true≢false l)
fresh_is Down d l = absurd (true≢false d)

module _ {S L : Type 0} (R : Behaviour S L) (values : List ℕ) (B : ℕ) (w : World S L) (t : Tally) (i : Inv R values B w t) (p : ℕ) (h : p < length values) where
  -- ---- the frames and the slips
  abbrev Carries : ℕ → Slip → Type 0
  Carries word s = Carry R values (heard_in t.triples) t.rounds word s

  record Pairs (ws : List ℕ) (ss : List Slip) : Type 0 where
    len : length ws ≡ length ss
    each : (j : ℕ) → j < length ss → Carries (get_or ws j 0) (get_or ss j nowhere)

  pairs_more : (x : ℕ) (s : Slip) (ws : List ℕ) (ss : List Slip) → Carries x s → Pairs ws ss → Pairs (x ∷ ws) (s ∷ ss)
  pairs_more x s ws ss c ps = record {
    len = ap suc ps.len;
    each = elim [ zero ↦ λ l. c | suc j ↦ λ l. ps.each j (omega arith) ];
  }

  abbrev theirs : ℕ → Option L
  theirs q = R.letter w.n p (station w p).round (state_of R w p) q

  abbrev ours : ℕ → Option L
  ours q = R.letter (length values) p (t.rounds p) (lockstep R values (heard_in t.triples) (t.rounds p) p) q

  letters_same : (q : ℕ) → theirs q ≡ ours q
  letters_same q = let n_is = i.n_is in let round = (i.seats p h).round in let state = (i.seats p h).state in cc

  abbrev words_with : ℕ → List ℕ → Option L → List ℕ
  words_with q ws o = elim o [ None ↦ ws | Some l ↦ frame_word R ((p, q, (station w p).round, l)) ∷ ws ]

  abbrev slips_with : ℕ → List Slip → Option L → List Slip
  slips_with q ss o = elim o [ None ↦ ss | Some l ↦ record { sender = p; receiver = q; round = t.rounds p } ∷ ss ]

  one : (q : ℕ) (ws : List ℕ) (ss : List Slip) → q < length values → Pairs ws ss → (o : Option L) → ours q ≡ o → Pairs (words_with q ws o) (slips_with q ss o)
  one q ws ss l ps None e = ps
  one q ws ss l ps (Some x) e = pairs_more _ _ ws ss (record {
    letter = x;
    word_is = rw (i.seats p h).round;
    to = l;
    brought = record { sender = h; begun = omega arith; same = sym e };
  }) ps

  pairs : (q m : ℕ) → q + m ≤ length values → Pairs (frames_from R w.n p (station w p).round (state_of R w p) q m) (slips_from R values t p q m)
  pairs q zero l = record { len = refl; each = λ j z. absurd (omega arith) }
  pairs q (suc m) l =
      let fs : List ℕ = frames_from R w.n p (station w p).round (state_of R w p) (suc q) m in
      let gs : List Slip = slips_from R values t p (suc q) m in
      subst (λ o. Pairs (words_with q fs o) (slips_with q gs (ours q))) (sym (letters_same q))
      (one q fs gs (omega arith) (pairs (suc q) m (omega arith)) (ours q) refl)

  abbrev ws : List ℕ
  ws = frames_of R w p

  abbrev ss : List Slip
  ss = slips_from R values t p 0 (length values)

  abbrev v : World S L
  v = with_pool R w (w.frames + length ws) (put w.pool w.frames ws)

  abbrev t₁ : Tally
  t₁ = record t { slips = t.slips ++ ss }

  pooled : Matched R w → ltb (w.pool_len - w.frames) (length ws) ≡ false → Inv R values B v t₁
  pooled m e =
      let ps : Pairs ws ss = subst (λ m. Pairs (frames_from R w.n p (station w p).round (state_of R w p) 0 m) ss) (sym i.n_is)
      (pairs 0 (length values) (omega arith)) in
      let room : w.frames + length ws ≤ w.pool_len = omega (arith, i.room, ltb-false (w.pool_len - w.frames) (length ws) e) in
      pool_changed R values B w t i (w.frames + length ws) (put w.pool w.frames ws) (t.slips ++ ss)
      (rw length-append (omega (arith, ps.len, i.frames_are))) room (λ j l. elim (cases_lt j w.frames) [
        | inl z ↦
            let near : j < length t.slips = omega (arith, i.frames_are) in
            rw (get_or_put_below ws w.pool w.frames j 0 z, get_or_append_left t.slips ss nowhere j near) (i.carried j near)
        | inr z ↦
            let x : ℕ = j - w.frames in
            let inside : x < length ss = omega (arith, rw length-append at l, i.frames_are) in
            let place : j ≡ w.frames + x = omega arith in
            let word : get_or (put w.pool w.frames ws) j 0 ≡ get_or ws x 0 =
            ap (λ y. get_or (put w.pool w.frames ws) y 0) place ∙ get_or_put_in ws w.pool w.frames x 0 (omega (arith, ps.len)) (omega (arith, m.pool)) in
            rw (word, get_or-append_right t.slips ss w.frames j nowhere (sym i.frames_are) z) (ps.each x inside)
      ])

-- ---- a fresh station begins to listen
same_note : (x r k q s : ℕ) → x ≡ k → (heard : StationSet) → s < STATIONS → ((q : ℕ) → contains heard q ≡ false) →
    ((eqb r k && contains heard q) || (eqb x r && eqb s q)) ≡ ((eqb r k && contains (with_station heard s) q) || false)
same_note x r k q s e heard h silent = elim (cases_eq q s) [
  | inl eq ↦ elim (cases_eq r k) [
    | inl er ↦ rw (e, er, eq, silent s, set_laws.contains_new heard s h, eq-eqb k k refl, eq-eqb s s refl)
    | inr er ↦ rw (e, ne_eqb r k er, ne_eqb k r (λ z. er (sym z)))
  ]
  | inr eq ↦ rw (silent q, set_laws.contains_old heard s h q eq, silent q, ne_eqb s q (λ z. eq (sym z)))
      (ap (λ y. (eqb r k && false) || y) (and_right (eqb x r) false refl))
]

module _ {S L : Type 0} (R : Behaviour S L) (values : List ℕ) (few : length values ≤ STATIONS) (B : ℕ) (w : World S L) (t : Tally) (i : Inv R values B w t)
    (letters : letter_cells w.n ≤ length w.letters)
    (p : ℕ) (h : p < length values) (up : is_down (station w p).stand ≡ false) (fresh : is_fresh (station w p).stand ≡ true) where
  abbrev old : StationRecord
  old = station w p

  abbrev plain : World S L
  plain = with_stations R w (set w.stations p (record old { stand = Listening }))

  abbrev inner : ℕ → World S L
  inner x = with_letters R (with_stations R w (set w.stations p (listened old (Some x)))) (taken_in w.n p (Some x) w.letters)

  plainly : ((x : Held) → old.hold ≡ Some x → x.round ≡ old.round → ⊥) → Inv R values B plain t
  plainly apart =
      let at : Seated R values w t p = i.seats p h in
      let a = at.live up in
      station_changed R values B w t i p (record old { stand = Listening }) w.letters t.notes h
      (λ p' r q e. refl) (λ p' q e l. refl) refl (λ _. record {
        within = a.within;
        noted = a.noted;
        marked = a.marked;
        holding = a.holding;
        ahead = a.ahead;
        later = λ _ x e. let not_now : (x.round ≡ t.rounds p → ⊥) = λ z. apart x e (z ∙ sym at.round) in omega (arith, a.ahead x e);
        silent = λ z. absurd (false≢true z);
      })

  inwards : (x : Held) → old.hold ≡ Some x → x.round ≡ old.round → Inv R values B (inner x.sender) t
  inwards x e now =
      let at : Seated R values w t p = i.seats p h in
      let a = at.live up in
      let n_is : w.n ≡ length values = i.n_is in
      let b = a.holding x e in
      let hx : x.sender < row_cells w.n = omega (arith, b.sender) in
      let inside : x.sender < STATIONS = omega (arith, b.sender, few) in
      let l = something_at w.letters (held_cell w.n p) (omega (arith, letters, cell_within w.n p w.n (omega arith) (omega arith))) in
      let c : ℕ = letter_cell w.n p x.sender in
      subst (λ o. Inv R values B (with_letters R
      (with_stations R w (set w.stations p (record old { stand = Listening; heard = with_station old.heard x.sender; hold = None })))
      (elim o [ None ↦ w.letters | Some l ↦ set w.letters (letter_cell w.n p x.sender) l ])) t) (sym l.1)
      (station_changed R values B w t i p (record old { stand = Listening; heard = with_station old.heard x.sender; hold = None })
      (set w.letters c l.0) t.notes h (λ p' r q e. refl)
      (λ p' q d hq. cell_kept w.letters w.n p x.sender l.0 hx p' q hq (λ z _. d z)) refl (λ _. record {
        within = set_laws.within_more old.heard x.sender inside a.within;
        noted = λ r q g. (rw e at (a.noted r q g)) ∙ same_note x.round r (t.rounds p) q x.sender (now ∙ at.round) old.heard inside (a.silent fresh);
        marked = λ q m. elim (cases_eq q x.sender) [
          | inl eq ↦ rw (eq, cell_written w.letters w.n p x.sender l.0 hx letters (omega arith)) (rw (l.1, now ∙ at.round) at b)
          | inr eq ↦ absurd (false≢true (sym (a.silent fresh q) ∙ sym (set_laws.contains_old old.heard x.sender inside q eq) ∙ m))
        ];
        holding = λ y z. absurd (none_some z);
        ahead = λ y z. absurd (none_some z);
        later = λ _ y z. absurd (none_some z);
        silent = λ z. absurd (false≢true z);
      }))

  begun : (o : Option ℕ) → due old ≡ o →
      Inv R values B (with_letters R (with_stations R w (set w.stations p (listened old o))) (taken_in w.n p o w.letters)) t
  begun None e = plainly (λ x z now. held_for_none old.hold old.round x e z now)
  begun (Some q) e =
      let d = held_for_some old.hold old.round q e in
      subst (λ y. Inv R values B (inner y) t) d.2 (inwards d.0 d.1 d.3)

module _ {S L : Type 0} (R : Behaviour S L) (values : List ℕ) (few : length values ≤ STATIONS) (B : ℕ) (w : World S L) (t : Tally)
    (i : Inv R values B w t) where
  pub sends : (p : ℕ) → Follows R values B (step R w (Send p)).0 (step R w (Send p)).1 t (tally_accepted R values t (Send p))
  unfolding step tally_accepted
  sends p = attempted R values B w (sent R w p) (send_refusal R w p) (length (frames_of R w p)) t (tally_accepted R values t (Send p)) i (λ fine.
      let b = none_holds (send_tests R w p) fine in
      let m : Matched R w = matched R w (b 1) in
      let h : p < length values = omega (arith, leb-false w.n p (b 2), i.n_is) in
      let j = pooled R values B w t i p h m (b 5) in
      begun R values few B (v R values B w t i p h) (t₁ R values B w t i p h) j m.letters p h (b 3) (fresh_is (station w p).stand (b 3) (b 4))
      (due (station w p)) refl)
