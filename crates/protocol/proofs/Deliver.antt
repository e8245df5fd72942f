-- An accepted delivery keeps the invariant: the frame is its slip's, and it meets the fate that the tally's note tells.
use Rattle.std.proofs.Common.{◌≡◌, ℕ, ◌^◌, ◌<◌, ◌≤◌, Bool, true, false, not, ◌&&◌, ◌||◌, T, eqb, ltb, List, length, get_or, set, Some, sym, refl, ◌∙◌}
use Rattle.std.proofs.Common.{subst, inl, inr, arith}
use mathlib.Core.Path.{fun_ext}
use Rattle.std.specs.Result.{result_err}
use Rattle.std.proofs.lemmas.Bool.{leb-false, cases_eq, ltb-false, eqb-true, eq-eqb, ne_eqb, le-ltb, false≢true, and_parts, not-true, or_left}
use Rattle.std.proofs.lemmas.Bool.{or_right, and_from}
use Rattle.stations.specs.declared.TheConstants.{STATIONS}
use Rattle.stations.specs.Stations.{contains}
use Rattle.stations.proofs.Laws.{set_laws}
use Rattle.rules.specs.Rule.{Behaviour, Laws, Ranges, lockstep}
use Rattle.frames.specs.Frame.{Frame}
use Rattle.protocol.specs.declared.types.StationRecord.{StationRecord}
use Rattle.protocol.specs.declared.types.Fate.{Fate}
use Rattle.protocol.specs.declared.types.Fate.TheVariants.{Late, Again, Taken, Early}
use Rattle.protocol.specs.declared.types.Step.TheVariants.{Deliver}
use Rattle.protocol.specs.Records.{hearing, holding}
use Rattle.protocol.specs.World.{World, station}
use Rattle.protocol.specs.Rows.{row_cells, letter_cells, letter_cell, held_cell}
use Rattle.protocol.specs.Steps.{step}
use Rattle.protocol.specs.Calls.{taking_tests, without_frame, received, frame_at}
use Rattle.protocol.specs.Tally.{Tally, Slip, heard_in, nowhere, swap_out, tally_accepted}
use Rattle.protocol.proofs.Rows.{cell_written, cell_kept}
use Rattle.frames.proofs.RoundTrip.{reads_back}
use Rattle.lists.proofs.Options.{none_some, same_some}
use Rattle.rules.proofs.Runs.{run_laws}
use Rattle.protocol.proofs.Outcomes.{none_holds, deliver_by}
use Rattle.protocol.proofs.Judgements.{Taking, Judged, judged_so}
use Rattle.protocol.proofs.Invariant.{Inv, Brought, Carry, Seated, Matched, matched, Follows}
use Rattle.protocol.proofs.Pool.{frame_out}
use Rattle.protocol.proofs.Change.{station_changed}

-- a delivered slip in the notes
abbrev noting : Tally → Slip → ℕ → ℕ → ℕ → Bool
noting t s p r q = t.notes p r q || (eqb s.receiver p && eqb s.round r && eqb s.sender q && not (ltb s.round (t.rounds s.receiver)))

abbrev noted : Tally → Slip → Tally
noted t s = record t { notes = noting t s }

absorbed : (a b : Bool) → (b ≡ true → a ≡ true) → (a || b) ≡ a
absorbed true b h = refl
absorbed false true h = sym (h refl)
absorbed false false h = refl

early_note : (x a b : Bool) → ((x || false) || (true && a && b && true)) ≡ (x || (a && b))
early_note true a b = refl
early_note false true true = refl
early_note false true false = refl
early_note false false b = refl

-- the slip is noted for this receiver, round and sender, and not too late
said : (t : Tally) (s : Slip) (p r q : ℕ) →
    (eqb s.receiver p && eqb s.round r && eqb s.sender q && not (ltb s.round (t.rounds s.receiver))) ≡ true →
    (s.receiver ≡ p) × (s.round ≡ r) × (s.sender ≡ q) × (t.rounds s.receiver ≤ s.round)
said t s p r q e =
    let a = and_parts _ _ e in
    let b = and_parts _ _ a.0 in
    let c = and_parts _ _ b.0 in
    (eqb-true s.receiver p c.0, eqb-true s.round r c.1, eqb-true s.sender q b.1, ltb-false s.round (t.rounds s.receiver) (not-true _ a.1))

says : (t : Tally) (s : Slip) (p r q : ℕ) → s.receiver ≡ p → s.round ≡ r → s.sender ≡ q → t.rounds s.receiver ≤ s.round →
    (eqb s.receiver p && eqb s.round r && eqb s.sender q && not (ltb s.round (t.rounds s.receiver))) ≡ true
says t s p r q ep er eq h =
    rw (eq-eqb s.receiver p ep, eq-eqb s.round r er, eq-eqb s.sender q eq, le-ltb s.round (t.rounds s.receiver) h)

module _ {S L : Type 0} (R : Behaviour S L) (values : List ℕ) (B : ℕ) (w : World S L) (t : Tally) (i : Inv R values B w t)
    (letters : letter_cells w.n ≤ length w.letters) (s : Slip) (l : L) (to : s.receiver < length values)
    (b : Brought R values (heard_in t.triples) t.rounds (Some l) s.sender s.round s.receiver)
    (few : length values ≤ STATIONS) where
  abbrev f : Frame L
  f = (s.sender, s.receiver, s.round, l)

  abbrev old : StationRecord
  old = station w s.receiver

  same_notes : ((p r q : ℕ) → noting t s p r q ≡ t.notes p r q) → Inv R values B w (noted t s)
  same_notes e =
      let all : noting t s ≡ t.notes = fun_ext (λ p. fun_ext (λ r. fun_ext (λ q. e p r q))) in
      subst (λ x. Inv R values B w (record t { notes = x })) (sym all) i

  late : s.round < old.round → Inv R values B (received R w f Late) (noted t s)
  late h = same_notes (λ p r q. absorbed _ _ (λ e. absurd (omega (arith, (said t s p r q e).3, (i.seats s.receiver to).round))))

  again : Taking old → s.round ≡ old.round → contains old.heard s.sender ≡ true → Inv R values B (received R w f Again) (noted t s)
  again taking h e = same_notes (λ p r q. absorbed _ _ (λ m.
      let k = said t s p r q m in
      let at : Seated R values w t s.receiver = i.seats s.receiver to in
      let n : t.notes s.receiver s.round s.sender ≡ true =
      (at.live taking.up).noted s.round s.sender k.3 ∙ rw (eq-eqb s.round (t.rounds s.receiver) (h ∙ at.round), e) in
      rw (k.0, k.1, k.2) at n))

  -- at other stations
  abbrev Apart : ℕ → Type 0
  Apart p = p ≡ s.receiver → ⊥

  notes_apart : (p r q : ℕ) → Apart p → noting t s p r q ≡ t.notes p r q
  notes_apart p r q e = absorbed _ _ (λ m. absurd (e (sym (said t s p r q m).0)))

  here : s.receiver < w.n
  here = omega (arith, i.n_is, to)

  taken : Taking old → s.round ≡ old.round → Inv R values B (received R w f Taken) (noted t s)
  taken taking h =
      let at : Seated R values w t s.receiver = i.seats s.receiver to in
      let a = at.live taking.up in
      let n_is : w.n ≡ length values = i.n_is in
      let x : ℕ = s.sender in
      let now : s.round ≡ t.rounds s.receiver = h ∙ at.round in
      let hx : x < row_cells w.n = omega (arith, b.sender) in
      let inside : x < STATIONS = omega (arith, b.sender, few) in
      station_changed R values B w t i s.receiver (hearing old x)
      (set w.letters (letter_cell w.n s.receiver x) l) (noting t s) to notes_apart
      (λ p q e hq. cell_kept w.letters w.n s.receiver x l hx p q hq (λ z _. e z)) refl (λ _. record {
        within = set_laws.within_more old.heard x inside a.within;
        noted = λ r q g. elim (cases_eq q x) [
          | inl eq ↦ elim (cases_eq r (t.rounds s.receiver)) [
            | inl er ↦ rw (eq, er) (or_right _ _ (says t s s.receiver (t.rounds s.receiver) x refl now refl (omega (arith, now)))
                ∙ sym (or_left _ _ (and_from _ _ (eq-eqb (t.rounds s.receiver) (t.rounds s.receiver) refl) (set_laws.contains_new old.heard x inside))))
            | inr er ↦ absorbed _ _ (λ m. absurd (er (sym (said t s s.receiver r q m).1 ∙ now))) ∙ a.noted r q g
                ∙ rw (ne_eqb r (t.rounds s.receiver) er)
          ]
          | inr eq ↦ absorbed _ _ (λ m. absurd (eq (sym (said t s s.receiver r q m).2))) ∙ a.noted r q g ∙ rw (set_laws.contains_old old.heard x inside q eq)
        ];
        marked = λ q m. elim (cases_eq q x) [
          | inl eq ↦ rw (eq, cell_written w.letters w.n s.receiver x l hx letters here, ← now) b
          | inr eq ↦
              let c = a.marked q (sym (set_laws.contains_old old.heard x inside q eq) ∙ m) in
              rw (cell_kept w.letters w.n s.receiver x l hx s.receiver q (omega (arith, c.sender)) (λ _ z. eq z)) c
        ];
        holding = λ x y. absurd (none_some (sym taking.free ∙ y));
        ahead = λ x y. absurd (none_some (sym taking.free ∙ y));
        later = λ _ x y. absurd (none_some (sym taking.free ∙ y));
        silent = λ y. absurd (false≢true (sym taking.ready ∙ y));
      })

  early : Taking old → old.round < s.round → Inv R values B (received R w f Early) (noted t s)
  early taking h =
      let at : Seated R values w t s.receiver = i.seats s.receiver to in
      let a = at.live taking.up in
      let n_is : w.n ≡ length values = i.n_is in
      let ahead : t.rounds s.receiver < s.round = omega (arith, at.round) in
      station_changed R values B w t i s.receiver (holding old (record { sender = s.sender; round = s.round }))
      (set w.letters (held_cell w.n s.receiver) l) (noting t s) to notes_apart
      (λ p q e hq. cell_kept w.letters w.n s.receiver w.n l (omega arith) p q hq (λ z _. e z)) refl (λ _. record {
        within = a.within;
        noted = λ r q g. rw (a.noted r q g, taking.free, eq-eqb s.receiver s.receiver refl, le-ltb s.round (t.rounds s.receiver) (omega arith))
            (early_note (eqb r (t.rounds s.receiver) && contains old.heard q) (eqb s.round r) (eqb s.sender q));
        marked = λ q m. let c = a.marked q m in rw
            (cell_kept w.letters w.n s.receiver w.n l (omega arith) s.receiver q (omega (arith, c.sender)) (λ _ z. absurd (omega (arith, c.sender)))) c;
        holding = λ x y. rw (← same_some y, cell_written w.letters w.n s.receiver w.n l (omega arith) letters here) b;
        ahead = λ x y. rw (← same_some y) (omega arith);
        later = λ _ x y. rw (← same_some y) ahead;
        silent = λ y. absurd (false≢true (sym taking.ready ∙ y));
      })

  met : (x : Fate) → Judged old s.sender s.round x → Inv R values B (received R w f x) (noted t s)
  met Late h = late h
  met Again h = again h.0 h.1 h.2
  met Taken h = taken h.0 h.1
  met Early h = early h.0 h.1

module _ {S L : Type 0} (R : Behaviour S L) {letter_fits : L → Bool} (laws : Laws R letter_fits) (ranges : Ranges R letter_fits) (values : List ℕ)
    (small : (p : ℕ) → p < length values → get_or values p 0 < 2 ^ 16)
    (few : length values ≤ STATIONS) (B : ℕ) (w : World S L) (t : Tally) (i : Inv R values B w t) (k : ℕ) where
  abbrev s : Slip
  s = get_or t.slips k nowhere

  -- the tally without the slip
  abbrev t₁ : Tally
  t₁ = record t { slips = swap_out nowhere t.slips k }

  carry : k < w.frames → Carry R values (heard_in t.triples) t.rounds (get_or w.pool k 0) s
  carry h = i.carried k (omega (arith, i.frames_are))

  frame_is : (h : k < w.frames) → frame_at R w k ≡ Some ((s.sender, s.receiver, s.round, (carry h).letter))
  frame_is h =
      let c = carry h in
      let b = c.brought in
      let n_is : w.n ≡ length values = i.n_is in
      let fits : T (letter_fits c.letter) =
      ranges.sent_fits (length values) s.sender s.round s.receiver (lockstep R values (heard_in t.triples) s.round s.sender) c.letter
      ((run_laws R).fits values letter_fits ranges small (heard_in t.triples) s.round s.sender b.sender) (sym b.same) in
      rw c.word_is (reads_back R laws w.n s.sender s.receiver s.round c.letter (omega arith) (omega (arith, b.sender)) (omega (arith, c.to))
      (omega (arith, b.begun, (i.seats s.sender b.sender).limit)) fits)

  pub delivered : Follows R values B (step R w (Deliver k)).0 (step R w (Deliver k)).1 t (tally_accepted R values t (Deliver k))
  unfolding step tally_accepted
  delivered = deliver_by R w k (λ o. Follows R values B (result_err o.0) o.1 t (noted t₁ s)) (λ r. i) (λ fine f at x judgement.
      let b = none_holds (taking_tests R w k) fine in
      let m : Matched R w = matched R w (b 1) in
      let h : k < w.frames = leb-false w.frames k (b 2) in
      let c = carry h in
      let v : World S L = without_frame R w k in
      let j : Inv R values B v t₁ = frame_out R values B w t i k h m in
      let is : f ≡ (s.sender, s.receiver, s.round, c.letter) = same_some (sym at ∙ frame_is h) in
      subst (λ f. Inv R values B (received R v f x) (noted t₁ s)) (sym is)
      (met R values B v t₁ j m.letters s c.letter c.to c.brought few x (judged_so (station w s.receiver) s.sender s.round x (rw is at judgement))))
