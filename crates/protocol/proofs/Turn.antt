-- An accepted turn keeps the invariant: the new entry is the tally's triple, and the new state is the lockstep run's.
use Rattle.std.proofs.Common.{◌≡◌, ℕ, suc, ◌+◌, ◌-◌, ◌<◌, ◌≤◌, true, false, cond, ◌&&◌, eqb, List, [], ◌∷◌, ◌++◌, map, length, set, replicate, Some}
use Rattle.std.proofs.Common.{None, Option, sym, refl, ap, ◌∙◌, inl, inr, add-one, arith}
use Rattle.std.specs.List.{slice_get}
use Rattle.std.proofs.Math.Bool.{or-false}
use Rattle.std.proofs.lemmas.List.{length-set, length_push, length-map, length-append, length-replicate, get_or-set_same, get_or-set_other, set_at}
use Rattle.std.proofs.lemmas.List.{map_push, append_assoc}
use Rattle.std.proofs.lemmas.Bool.{cases_eq, cases_Bool, leb-false, eqb-true, eqb-false, eq-eqb, ne_eqb, true≢false, false≢true, cond_both, cond-true}
use Rattle.std.proofs.lemmas.Bool.{cond-false, and_parts, and_left, and_right}
use Rattle.rules.specs.declared.TheConstants.{LAST_ROUND}
use Rattle.lists.specs.Lists.{tabulate}
use Rattle.stations.specs.Stations.{contains, none, set_of, Within}
use Rattle.stations.proofs.Laws.{set_laws}
use Rattle.rules.specs.Rule.{Behaviour, Heard, letter_heard, lockstep}
use Rattle.frames.specs.Book.{entry_word}
use Rattle.protocol.specs.declared.types.Held.{Held}
use Rattle.protocol.specs.declared.types.StationRecord.{StationRecord}
use Rattle.protocol.specs.declared.types.Stand.TheVariants.{Fresh}
use Rattle.protocol.specs.declared.types.Step.TheVariants.{Turn}
use Rattle.protocol.specs.Records.{blank}
use Rattle.protocol.specs.World.{World, station}
use Rattle.protocol.specs.Records.{is_fresh, is_down}
use Rattle.protocol.specs.Rows.{letter_cell, held_cell}
use Rattle.protocol.specs.Steps.{step}
use Rattle.protocol.specs.Calls.{turn_tests, state_of, mailbox_of, turn_refusal, turned}
use Rattle.protocol.specs.Tally.{Tally, Triple, heard_in, tally_accepted}
use Rattle.protocol.specs.Guarantee.{entry}
use Rattle.lists.proofs.Tables.{tabulate_same}
use Rattle.protocol.proofs.Words.{Whole, Among}
use Rattle.rules.specs.Runs.{Known}
use Rattle.rules.proofs.Runs.{run_laws}
use Rattle.protocol.proofs.Invariant.{Inv, Live, Seat, Seated, Over, Grows, held, seat_kept, carry_kept, brought_kept, Matched, matched, Follows, attempted}
use Rattle.protocol.proofs.Outcomes.{none_holds}

-- ---- one more triple
heard_before : (ts : List Triple) (u : Triple) (p k q : ℕ) → (u.station ≡ p → u.round ≡ k → ⊥) → heard_in (ts ++ (u ∷ [])) p k q ≡ heard_in ts p k q
heard_before [] u p k q apart = cond_both (eqb u.station p && eqb u.round k) (contains u.heard q) false (λ x. x ≡ false)
    (λ e. let a = and_parts _ _ e in absurd (apart (eqb-true u.station p a.0) (eqb-true u.round k a.1))) (λ e. refl)
heard_before (t ∷ ts) u p k q apart = rw (heard_before ts u p k q apart)

heard_new : (rounds : ℕ → ℕ) (ts : List Triple) (u : Triple) (q : ℕ) → Over rounds ts → rounds u.station ≤ u.round →
    heard_in (ts ++ (u ∷ [])) u.station u.round q ≡ contains u.heard q
heard_new rounds [] u q over h = rw (eq-eqb u.station u.station refl, eq-eqb u.round u.round refl)
heard_new rounds (t ∷ ts) u q over h =
    cond_both (eqb t.station u.station && eqb t.round u.round) (contains t.heard q) (heard_in (ts ++ (u ∷ [])) u.station u.round q)
    (λ x. x ≡ contains u.heard q)
    (λ e.
    let a = and_parts _ _ e in
    let z : rounds t.station ≡ rounds u.station = ap rounds (eqb-true t.station u.station a.0) in
    absurd (omega (arith, over.0, eqb-true t.round u.round a.1)))
    (λ e. heard_new rounds ts u q over.1 h)

over_more : (rounds rounds' : ℕ → ℕ) (ts : List Triple) (u : Triple) → ((q : ℕ) → rounds q ≤ rounds' q) → u.round < rounds' u.station → Over rounds ts →
    Over rounds' (ts ++ (u ∷ []))
over_more rounds rounds' [] u g h o = (h, tt)
over_more rounds rounds' (t ∷ ts) u g h o = (omega (arith, o.0, g t.station), over_more rounds rounds' ts u g h o.1)

whole_more : (ts : List Triple) (u : Triple) → u.round ≤ LAST_ROUND → Within u.heard → Whole ts → Whole (ts ++ (u ∷ []))
whole_more [] u h l o = (h, l, tt)
whole_more (t ∷ ts) u h l o = (o.0, o.1, whole_more ts u h l o.2)

among_more : (n : ℕ) (ts : List Triple) (u : Triple) → u.station < n → ((q : ℕ) → contains u.heard q ≡ true → q < n) → Among n ts → Among n (ts ++ (u ∷ []))
among_more n [] u h l o = (h, l, tt)
among_more n (t ∷ ts) u h l o = (o.0, o.1, among_more n ts u h l o.2)

-- ---- one more word in the book
module _ (ts : List Triple) (book : List ℕ) (B c : ℕ) (book_is : book ≡ map entry ts ++ replicate (B - length ts) 0) (c_is : c ≡ length ts) where
  book_room : length book ≡ B → (c ≡ B → ⊥) → c < B
  book_room e f =
      let l : length book ≡ length ts + (B - length ts) =
      ap length book_is ∙ simp (length-append, length-map, length-replicate) in
      omega arith

  book_push : (u : Triple) (x : ℕ) → c < B → x ≡ entry u → set book c x ≡ map entry (ts ++ (u ∷ [])) ++ replicate (B - length (ts ++ (u ∷ []))) 0
  book_push u x free e =
      let rest : List ℕ = replicate (B - length (ts ++ (u ∷ []))) 0 in
      let one : B - length ts ≡ suc (B - length (ts ++ (u ∷ []))) = omega (arith, length_push ts u) in
      let zeros : replicate (B - length ts) 0 ≡ 0 ∷ rest = ap (λ n. replicate n 0) one in
      ap (λ b. set b c x) (book_is ∙ ap (λ z. map entry ts ++ z) zeros)
      ∙ set_at (map entry ts) 0 rest x c (length-map ts entry ∙ sym c_is)
      ∙ ap (λ y. map entry ts ++ (y ∷ rest)) e
      ∙ sym (ap (λ z. z ++ rest) (map_push entry ts u) ∙ append_assoc (map entry ts) (entry u ∷ []) rest)

-- the rounds after a turn of p
abbrev pub moved : (ℕ → ℕ) → ℕ → ℕ → ℕ
moved rounds p x = cond (eqb x p) (rounds p + 1) (rounds x)

moved_here : (rounds : ℕ → ℕ) (p : ℕ) → moved rounds p p ≡ rounds p + 1
moved_here rounds p = cond-true (eqb p p) (rounds p + 1) (rounds p) (eq-eqb p p refl)

moved_apart : (rounds : ℕ → ℕ) (p q : ℕ) → (q ≡ p → ⊥) → moved rounds p q ≡ rounds q
moved_apart rounds p q e = cond-false (eqb q p) (rounds p + 1) (rounds q) (ne_eqb q p e)

moved_more : (rounds : ℕ → ℕ) (p q : ℕ) → rounds q ≤ moved rounds p q
moved_more rounds p q = elim (cases_eq q p) [
  | inl e ↦ rw (e, moved_here rounds p) (omega arith)
  | inr e ↦ rw (moved_apart rounds p q e) (omega arith)
]

module _ {S L : Type 0} (R : Behaviour S L) (values : List ℕ) (t : Tally) (known : Known (heard_in t.triples) t.rounds) (p : ℕ) where
  abbrev new : Triple
  new = record { station = p; round = t.rounds p; heard = set_of (t.notes p (t.rounds p)) }

  abbrev pub H : Heard
  H = heard_in t.triples

  abbrev pub H' : Heard
  H' = heard_in (t.triples ++ (new ∷ []))

  -- the key to it all: a new triple for p changes no state that a station has reached, since whoever is heard in a round
  -- had reached it before
  pub turn_grows : Grows R values H t.rounds H' (moved t.rounds p)
  turn_grows k q h = (
    omega (arith, moved_more t.rounds p q),
    (run_laws R).grows values H H' t.rounds known (λ x y z l. heard_before t.triples new x y z (λ ep ek. let e = ap t.rounds ep in absurd (omega arith))) k q h,
  )

module _ {S L : Type 0} (R : Behaviour S L) (values : List ℕ) (B : ℕ) (w : World S L) (t : Tally) (i : Inv R values B w t)
    (p : ℕ) (h : p < length values) (up : is_down (station w p).stand ≡ false) (ready : is_fresh (station w p).stand ≡ false) where
  abbrev s : StationRecord
  s = station w p

  abbrev rd : ℕ
  rd = t.rounds p

  abbrev Hn : Heard
  Hn = H' R values t i.known p

  at : Seated R values w t p
  at = i.seats p h

  a : Live R values (heard_in t.triples) t.rounds (t.notes p) s w.n w.letters p
  a = at.live up

  grows : Grows R values (heard_in t.triples) t.rounds Hn (moved t.rounds p)
  grows = turn_grows R values t i.known p

  -- a held letter is for a later round
  held_later : (o : Option Held) → ((x : Held) → o ≡ Some x → rd < x.round) → (q : ℕ) → held o rd q ≡ false
  held_later None later q = refl
  held_later (Some x) later q = and_left (eqb x.round rd) (eqb x.sender q) (ne_eqb x.round rd (λ z. absurd (omega (arith, later x refl))))

  heard_now : (q : ℕ) → t.notes p rd q ≡ contains s.heard q
  heard_now q = a.noted rd q (omega arith) ∙ rw (eq-eqb rd rd refl, held_later s.hold (a.later ready) q) (or-false (contains s.heard q))

  heard_is : set_of (t.notes p rd) ≡ s.heard
  heard_is = set_laws.same_members (set_of (t.notes p rd)) s.heard (set_laws.within_set (t.notes p rd)) a.within
      (λ q l. set_laws.contains_set (t.notes p rd) q l ∙ heard_now q)

  heard_then : (q : ℕ) → Hn p rd q ≡ contains s.heard q
  heard_then q = heard_new t.rounds t.triples (new R values t i.known p) q i.over (omega arith) ∙ ap (λ x. contains x q) heard_is

  known_then : Known Hn (moved t.rounds p)
  known_then x k q e = elim (cases_eq x p) [
    | inl ex ↦ elim (cases_eq k rd) [
      | inl ek ↦
          let m : contains s.heard q ≡ true = sym (heard_then q) ∙ (rw (ex, ek) at e) in
          omega (arith, (a.marked q m).begun, moved_more t.rounds p q)
      | inr ek ↦ before (λ _ z. ek (sym z))
    ]
    | inr ex ↦ before (λ z _. ex (sym z))
  ]
    where
      before : (p ≡ x → rd ≡ k → ⊥) → k ≤ moved t.rounds p q
      before z = omega (arith, i.known x k q (sym (heard_before t.triples (new R values t i.known p) x k q z) ∙ e), moved_more t.rounds p q)

  mail_is : mailbox_of R w p ≡ tabulate (length values) (letter_heard R (length values) p rd (Hn p rd) (lockstep R values Hn rd))
  mail_is =
      let theirs : ℕ → Option L = λ q. cond (contains s.heard q) (slice_get w.letters (letter_cell w.n p q)) None in
      ap (λ m. tabulate m theirs) i.n_is ∙ tabulate_same (length values) theirs (letter_heard R (length values) p rd (Hn p rd) (lockstep R values Hn rd))
      (λ q l. elim (cases_Bool (contains s.heard q)) [
        | inl m ↦
            let b = a.marked q m in
            rw (heard_then q, m) (b.same ∙ ap (λ y. R.letter (length values) q rd y p) (sym (grows rd q b.begun).1))
        | inr m ↦ rw (heard_then q, m)
      ])

  next_is : R.next w.n p s.round (state_of R w p) (mailbox_of R w p) ≡ lockstep R values Hn (moved t.rounds p p) p
  unfolding lockstep
  next_is =
      let n_is = i.n_is in
      let r_is = at.round in
      let x_is : state_of R w p ≡ lockstep R values Hn rd p = at.state ∙ sym (grows rd p (omega arith)).1 in
      let m = mail_is in
      let e : moved t.rounds p p ≡ suc rd = moved_here t.rounds p ∙ add-one rd in
      let step : R.next w.n p s.round (state_of R w p) (mailbox_of R w p) ≡ R.next (length values) p rd (lockstep R values Hn rd p)
      (tabulate (length values) (letter_heard R (length values) p rd (Hn p rd) (lockstep R values Hn rd))) = cc in
      step ∙ ap (λ k. lockstep R values Hn k p) (sym e)

  abbrev then : StationRecord
  then = record s { round = s.round + 1; stand = Fresh; heard = none }

  seat_then :
      eqb s.round LAST_ROUND ≡ false → (x : S) → x ≡ R.next w.n p s.round (state_of R w p) (mailbox_of R w p) →
      Seat R values Hn (moved t.rounds p) (t.notes p) then x w.n w.letters p
  seat_then more_left x e =
      let more : moved t.rounds p p ≡ rd + 1 = moved_here t.rounds p in
      record {
        round = rw more (omega (arith, at.round));
        limit = rw more (omega (arith, at.limit, at.round, eqb-false s.round LAST_ROUND more_left));
        state = e ∙ next_is;
        live = λ _. record {
          within = omega arith;
          noted = λ r q g.
              let past : rd < r = omega (arith, rw more at g) in
              a.noted r q (omega arith) ∙ rw (
                ne_eqb r rd (λ z. absurd (omega arith)),
                set_laws.contains_none q,
                and_right (eqb r (moved t.rounds p p)) false refl,
              );
          marked = λ q m. absurd (false≢true (sym (set_laws.contains_none q) ∙ m));
          holding = λ y z. brought_kept R values (heard_in t.triples) Hn t.rounds (moved t.rounds p) grows
              (slice_get w.letters (held_cell w.n p)) y.sender y.round p (a.holding y z);
          ahead = λ y z. rw more (omega (arith, a.later ready y z));
          later = λ f. absurd (true≢false f);
          silent = λ _ q. set_laws.contains_none q;
        };
      }

  turned_well : Matched R w → eqb w.entries w.book_len ≡ false → eqb s.round LAST_ROUND ≡ false →
      Inv R values B (turned R w p) (tally_accepted R values t (Turn p))
  unfolding tally_accepted
  turned_well m full more_left =
      let n_is = i.n_is in
      let free : w.entries < B = book_room t.triples w.book B w.entries i.book_is i.entries_are (m.book ∙ i.book_len_is)
      (λ z. eqb-false w.entries w.book_len full (z ∙ sym i.book_len_is)) in
      let word : entry_word p s.round s.heard ≡ entry (new R values t i.known p) = rw (at.round, heard_is) in
      record {
        n_is = i.n_is;
        book_len_is = i.book_len_is;
        wide = rw length-set i.wide;
        room = i.room;
        frames_are = i.frames_are;
        carried = λ j l. carry_kept R values (heard_in t.triples) Hn t.rounds (moved t.rounds p) grows _ _ (i.carried j l);
        seats = λ x hx. elim (cases_eq x p) [
          | inl e ↦ rw (e, get_or-set_same w.stations p then blank (omega (arith, i.wide)))
              (seat_then more_left _ (get_or-set_same w.states p _ _ (omega (arith, m.states))))
          | inr e ↦ seat_kept R values (heard_in t.triples) Hn t.rounds (moved t.rounds p) grows (t.notes x) (t.notes x) (station w x) _ (state_of R w x) _
              w.n w.letters w.letters x
              (moved_apart t.rounds p x e) (λ r q. refl) (get_or-set_other w.stations p x then blank e) (get_or-set_other w.states p x _ _ e) n_is
              (λ j l. refl) (i.seats x hx)
        ];
        entries_are = rw length_push (omega (arith, i.entries_are));
        book_is = book_push t.triples w.book B w.entries i.book_is i.entries_are (new R values t i.known p) (entry_word p s.round s.heard) free word;
        over = over_more t.rounds (moved t.rounds p) t.triples (new R values t i.known p) (moved_more t.rounds p)
            (rw (moved_here t.rounds p) (omega arith)) i.over;
        whole = whole_more t.triples (new R values t i.known p) at.limit (set_laws.within_set (t.notes p rd)) i.whole;
        among = among_more (length values) t.triples (new R values t i.known p) h
            (λ q m. (a.marked q (sym (ap (λ x. contains x q) heard_is) ∙ m)).sender) i.among;
        known = known_then;
      }

module _ {S L : Type 0} (R : Behaviour S L) (values : List ℕ) (B : ℕ) (w : World S L) (t : Tally) (i : Inv R values B w t) where
  pub turns : (p : ℕ) → Follows R values B (step R w (Turn p)).0 (step R w (Turn p)).1 t (tally_accepted R values t (Turn p))
  unfolding step
  turns p = attempted R values B w (turned R w p) (turn_refusal R w p) ((station w p).round + 1) t (tally_accepted R values t (Turn p)) i (λ fine.
      let n_is = i.n_is in
      let b = none_holds (turn_tests R w p) fine in
      turned_well R values B w t i p (omega (arith, leb-false w.n p (b 2))) (b 3) (b 4) (matched R w (b 1)) (b 5) (b 6))
