-- An opened shed and the empty tally keep the invariant.
use Rattle.std.proofs.Common.{◌≡◌, ℕ, ◌<◌, ◌≤◌, false, ◌&&◌, eqb, ltb, List, length, get_or, None, sym, refl, ◌∙◌, arith}
use native.Mathlib.Nat.{sub-zero}
use Rattle.std.proofs.lemmas.List.{get_or-replicate}
use Rattle.std.proofs.lemmas.Bool.{or_parts, ltb-false, eqb-false, false≢true, and_right, or_from}
use Rattle.stations.specs.declared.TheConstants.{STATIONS}
use Rattle.stations.proofs.Laws.{set_laws}
use Rattle.rules.specs.Rule.{Behaviour, Interface, lockstep}
use Rattle.protocol.specs.Records.{blank}
use Rattle.protocol.specs.World.{World, station}
use Rattle.protocol.specs.Rows.{letter_cells}
use Rattle.protocol.specs.Calls.{open_refusal, open_tests, opened, state_of}
use Rattle.protocol.specs.Tally.{start}
use Rattle.lists.proofs.Tables.{get_or_written}
use Rattle.lists.proofs.Options.{none_some}
use Rattle.protocol.proofs.Outcomes.{none_holds}
use Rattle.protocol.proofs.Invariant.{Inv, Seated}

-- what an accepted opening says
pub record Opens {S L : Type 0} (R : Behaviour S L) (w : World S L) (values : List ℕ) : Type 0 where
  pub some : 1 ≤ length values
  pub few : length values ≤ R.most
  pub states : length values ≤ length w.states

module _ {S L : Type 0} (R : Behaviour S L) (face : Interface R) (w : World S L) (values : List ℕ) (fine : open_refusal R w values ≡ None) where
  pub opens : Opens R w values
  opens =
      let n : ℕ = length values in
      let a = none_holds (open_tests R w values) fine in
      let v = or_parts (eqb n 0) (ltb R.most n) (a 1) in
      let m = or_parts (ltb (length w.states) n) (ltb (length w.letters) (letter_cells n)) (a 3) in
      record {
        some = omega (arith, eqb-false (length values) 0 v.0);
        few = ltb-false R.most (length values) v.1;
        states = ltb-false (length w.states) (length values) m.0;
      }

  seat : (p : ℕ) → p < length values → Seated R values (opened R w values) start p
  unfolding lockstep
  seat p h =
      let s_is : station (opened R w values) p ≡ blank = get_or-replicate STATIONS p blank blank (omega (arith, face.most_few, opens.few)) in
      let x_is : state_of R (opened R w values) p ≡ R.first (length values) p (get_or values p 0) =
      get_or_written (length values) (λ q. R.first (length values) q (get_or values q 0)) w.states p (R.first (length values) p 0) h in
      rw s_is (record {
        round = refl;
        limit = omega arith;
        state = x_is;
        live = λ up. record {
          within = omega arith;
          noted = λ r q i. rw (set_laws.contains_none q) (sym (or_from (eqb r 0 && false) false (and_right (eqb r 0) false refl) refl));
          marked = λ q m. absurd (false≢true (sym (set_laws.contains_none q) ∙ m));
          holding = λ h e. absurd (none_some e);
          ahead = λ h e. absurd (none_some e);
          later = λ f h e. absurd (none_some e);
          silent = λ f q. set_laws.contains_none q;
        };
      })

  pub started : Inv R values (length w.book) (opened R w values) start
  started = record {
    n_is = refl;
    book_len_is = refl;
    wide = omega (arith, face.most_few, opens.few);
    room = omega arith;
    frames_are = refl;
    carried = λ i h. absurd (omega arith);
    seats = seat;
    entries_are = refl;
    book_is = rw sub-zero;
    over = tt;
    whole = tt;
    among = tt;
    known = λ p k q e. absurd (false≢true e);
  }
