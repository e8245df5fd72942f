-- The guarantee, from the invariant after every list of calls.
use Rattle.std.proofs.Common.{◌≡◌, ℕ, ◌-◌, ◌^◌, ◌<◌, ◌≤◌, Bool, List, [], ◌∷◌, ◌++◌, map, length, get_or, replicate, Some, None, Option, sym, refl}
use Rattle.std.proofs.Common.{ap, ◌∙◌, arith}
use mathlib.Core.Path.{fun_ext}
use Rattle.std.proofs.lemmas.List.{length-append, length-map, length-replicate}
use Rattle.stations.specs.declared.TheConstants.{STATIONS}
use Rattle.rules.specs.Rule.{Behaviour, Laws, Ranges, Heard, Opening, lockstep}
use Rattle.frames.specs.Book.{book_heard}
use Rattle.protocol.specs.declared.refusal.Refusal.{Refusal}
use Rattle.protocol.specs.declared.types.Step.{Step}
use Rattle.protocol.specs.declared.types.Step.TheVariants.{Send, Deliver, Drop, Repeat, Turn, Crash}
use Rattle.protocol.specs.World.{World, station}
use Rattle.protocol.specs.Steps.{step, after, refusals}
use Rattle.protocol.specs.Calls.{opened, state_of}
use Rattle.protocol.specs.Tally.{Tally, heard_in, start, tally, tally_accepted}
use Rattle.protocol.specs.Guarantee.{Guaranteed, Sized, entry, accepted_turns, turns_by}
use Rattle.protocol.proofs.Words.{book_agrees, entries_name}
use Rattle.protocol.proofs.EachTurn.{Counts, stations_of, tally_turns, tally_counts, start_counts, entry_for_each}
use Rattle.rules.specs.Runs.{Known}
use Rattle.rules.proofs.Runs.{run_laws}
use Rattle.protocol.proofs.Invariant.{Inv, Grows, Follows}
use Rattle.protocol.proofs.Start.{Opens, opens, started}
use Rattle.protocol.proofs.Pool.{dropped, repeated}
use Rattle.protocol.proofs.Crash.{crashed}
use Rattle.protocol.proofs.Deliver.{delivered}
use Rattle.protocol.proofs.Send.{sends}
use Rattle.protocol.proofs.Sizes.{stays_sized, looks}
use Rattle.protocol.proofs.Turn.{turns, turn_grows}

module _ {S L : Type 0} (R : Behaviour S L) (values : List ℕ) where
  abbrev Grown : Tally → Tally → Type 0
  Grown t t' = Grows R values (heard_in t.triples) t.rounds (heard_in t'.triples) t'.rounds

  grown_then : (t u v : Tally) → Grown t u → Grown u v → Grown t v
  grown_then t u v f g k q h = let a = f k q h in let b = g k q a.0 in (b.0, b.1 ∙ a.1)

  call_grows : (t : Tally) → Known (heard_in t.triples) t.rounds → (c : Step) → Grown t (tally_accepted R values t c)
  unfolding tally_accepted
  call_grows t known (Send p) k q h = (h, refl)
  call_grows t known (Deliver x) k q h = (h, refl)
  call_grows t known (Drop x) k q h = (h, refl)
  call_grows t known (Repeat x) k q h = (h, refl)
  call_grows t known (Turn p) k q h = turn_grows R values t known p k q h
  call_grows t known (Crash p) k q h = (h, refl)

  after_append : (w : World S L) (cs ds : List Step) → after R w (cs ++ ds) ≡ after R (after R w cs) ds
  unfolding after
  after_append w [] ds = refl
  after_append w (c ∷ cs) ds = after_append (step R w c).1 cs ds

module _ {S L : Type 0} (R : Behaviour S L) {letter_fits : L → Bool} (laws : Laws R letter_fits) (ranges : Ranges R letter_fits) (values : List ℕ)
    (small : (p : ℕ) → p < length values → get_or values p 0 < 2 ^ 16)
    (few : length values ≤ STATIONS) (B : ℕ) where
  follow : (w : World S L) (t : Tally) → Inv R values B w t → (c : Step) → Follows R values B (step R w c).0 (step R w c).1 t (tally_accepted R values t c)
  follow w t i (Send p) = sends R values few B w t i p
  follow w t i (Deliver k) = delivered R laws ranges values small few B w t i k
  follow w t i (Drop k) = dropped R values B w t i k
  follow w t i (Repeat k) = repeated R values B w t i k
  follow w t i (Turn p) = turns R values B w t i p
  follow w t i (Crash p) = crashed R values B w t i p

  abbrev Reached : Tally → World S L → Tally → Type 0
  Reached t w u = Inv R values B w u × Grown R values t u

  one : (t : Tally) (c : Step) (cs : List Step) → Known (heard_in t.triples) t.rounds → (o : Option Refusal) (v : World S L) →
      Follows R values B o v t (tally_accepted R values t c) →
      ((u : Tally) → Inv R values B v u → Reached u (after R v cs) (tally R values u cs (refusals R v cs))) →
      Reached t (after R v cs) (tally R values t (c ∷ cs) (o ∷ refusals R v cs))
  unfolding tally
  one t c cs known None v f rest =
      let u : Tally = tally_accepted R values t c in
      let r = rest u f in
      (r.0, grown_then R values t u (tally R values u cs (refusals R v cs)) (call_grows R values t known c) r.1)
  one t c cs known (Some x) v f rest = rest t f

  run : (cs : List Step) (w : World S L) (t : Tally) → Inv R values B w t → Reached t (after R w cs) (tally R values t cs (refusals R w cs))
  unfolding after refusals tally
  run [] w t i = (i, λ k q h. (h, refl))
  run (c ∷ cs) w t i = one t c cs i.known (step R w c).0 (step R w c).1 (follow w t i c) (run cs (step R w c).1)

pub guaranteed : {S L : Type 0} (R : Behaviour S L) → Guaranteed R
guaranteed {S} {L} R letter_fits face laws ranges new values small fine calls =
    let o : Opens R new values = opens R face new values fine in
    let few : length values ≤ STATIONS = omega (arith, o.few, face.most_few) in
    let B : ℕ = length new.book in
    let w : World S L = opened R new values in
    let opening : Opening R values = record { some = o.some; not_too_many = o.few; small = small } in
    let v : World S L = after R w calls in
    let u : Tally = tally R values start calls (refusals R w calls) in
    let i : Inv R values B v u = (run R laws ranges values small few B calls w start (started R face new values fine)).0 in
    let sized : Sized R values v = stays_sized R new values calls fine in
    let H : Heard = heard_in u.triples in
    let turns : stations_of u.triples ≡ accepted_turns calls (refusals R w calls) = tally_turns R values calls (refusals R w calls) start in
    let counts : Counts u = tally_counts R values calls (refusals R w calls) start start_counts in
    let state : (p : ℕ) → p < length values → state_of R v p ≡ lockstep R values H (u.rounds p) p = λ p h. (i.seats p h).state in
    let hull : (p x : ℕ) → p < length values → R.hull (state_of R v p) ≡ Some x → R.hull (lockstep R values H (u.rounds p) p) ≡ Some x =
    λ p x h e. sym (ap R.hull (state p h)) ∙ e in
    record {
      in_order = rw (i.entries_are, i.book_is) (entry_for_each u (accepted_turns calls (refusals R w calls)) (B - length u.triples) turns i.whole counts);
      named = λ j l. rw i.book_is (entries_name (length values) u.triples (B - length u.triples) j i.whole i.among (omega (arith, l, i.entries_are)));
      recorded = rw (length-replicate {A = ℕ} (length new.book) 0) i.book_is;
      filled = i.entries_are;
      fits = omega (
        arith,
        i.entries_are,
        ap length i.book_is,
        length-append (map entry u.triples) (replicate (B - length u.triples) 0),
        length-map u.triples entry,
      );
      counted = λ p h. (i.seats p h).round ∙ counts.rounds p ∙ ap (turns_by p) turns;
      limited = λ p h. omega (arith, (i.seats p h).round, (i.seats p h).limit);
      sized = sized;
      seen = λ p h. looks R values v p sized h;
      refined = λ p h.
          let same : book_heard v.book ≡ H = ap book_heard i.book_is
          ∙ fun_ext (λ x. fun_ext (λ k. fun_ext (λ q. book_agrees u.triples (B - length u.triples) x k q i.whole))) in
          state p h ∙ ap (λ k. lockstep R values H k p) (sym (i.seats p h).round) ∙ ap (λ (G : Heard). lockstep R values G (station v p).round p) (sym same);
      agreed = λ p q a b hp hq ea eb. laws.agreement values opening H p q (u.rounds p) (u.rounds q) a b hp hq (hull p a hp ea) (hull q b hq eb);
      valid = λ p h hp e. laws.validity values opening H p (u.rounds p) h hp (hull p h hp e);
      kept = λ p h more hp e.
          let r = run R laws ranges values small few B more v u i in
          let t : Tally = tally R values u more (refusals R v more) in
          let g = r.1 (u.rounds p) p (omega arith) in
          let before : R.hull (lockstep R values (heard_in t.triples) (u.rounds p) p) ≡ Some h = rw g.1 (hull p h hp e) in
          let now : R.hull (lockstep R values (heard_in t.triples) (t.rounds p) p) ≡ Some h =
          (run_laws R).hull_stays values laws.stable (heard_in t.triples) p h (u.rounds p) (t.rounds p) g.0 before in
          ap (λ x. R.hull (state_of R x p)) (after_append R values w calls more) ∙ (ap R.hull (r.0.seats p hp).state ∙ now);
    }
