-- The invariant after a change of the pool, or of one station.
use Rattle.std.proofs.Common.{◌≡◌, ℕ, ◌<◌, ◌≤◌, Bool, List, length, get_or, set, false, refl, ◌∙◌, inl, inr, arith}
use Rattle.std.proofs.lemmas.List.{get_or-set_same, get_or-set_other, length-set}
use Rattle.std.proofs.lemmas.Bool.{cases_eq}
use Rattle.rules.specs.Rule.{Behaviour}
use Rattle.protocol.specs.Records.{blank, is_down}
use Rattle.protocol.specs.World.{World, station}
use Rattle.protocol.specs.Calls.{with_pool, with_stations, with_letters, state_of}
use Rattle.protocol.specs.Rows.{row_cells, row_cell}
use Rattle.protocol.specs.Tally.{Tally, Slip, heard_in, nowhere}
use Rattle.protocol.proofs.Invariant.{Inv, Live, Carry, seat_kept}
use Rattle.std.specs.List.{slice_get}
use Rattle.protocol.specs.declared.types.StationRecord.{StationRecord}

module _ {S L : Type 0} (R : Behaviour S L) (values : List ℕ) (B : ℕ) (w : World S L) (t : Tally) (i : Inv R values B w t) where
  -- other slips, with other words in the pool
  pub pool_changed :
      (c : ℕ) (x : List ℕ) (slips : List Slip) → c ≡ length slips → c ≤ w.pool_len →
      ((j : ℕ) → j < length slips → Carry R values (heard_in t.triples) t.rounds (get_or x j 0) (get_or slips j nowhere)) →
      Inv R values B (with_pool R w c x) (record t { slips = slips })
  pool_changed c x slips e room carried = record {
    n_is = i.n_is;
    book_len_is = i.book_len_is;
    wide = i.wide;
    room = room;
    frames_are = e;
    carried = carried;
    seats = i.seats;
    entries_are = i.entries_are;
    book_is = i.book_is;
    over = i.over;
    whole = i.whole;
    among = i.among;
    known = i.known;
  }

  -- station p, its row and its notes change
  pub station_changed :
      (p : ℕ) (s : StationRecord) (letters : List L) (notes : ℕ → ℕ → ℕ → Bool) → p < length values →
      ((p' r q : ℕ) → (p' ≡ p → ⊥) → notes p' r q ≡ t.notes p' r q) →
      ((p' i : ℕ) → (p' ≡ p → ⊥) → i < row_cells w.n → slice_get letters (row_cell w.n p' i) ≡ slice_get w.letters (row_cell w.n p' i)) →
      s.round ≡ (station w p).round →
      (is_down s.stand ≡ false → Live R values (heard_in t.triples) t.rounds (notes p) s w.n letters p) →
      Inv R values B (with_letters R (with_stations R w (set w.stations p s)) letters)
      (record t { notes = notes })
  station_changed p s letters notes h en el same live = let old = i.seats p h in record {
    n_is = i.n_is;
    book_len_is = i.book_len_is;
    wide = rw length-set i.wide;
    room = i.room;
    frames_are = i.frames_are;
    carried = i.carried;
    seats = λ p' h'. elim (cases_eq p' p) [
      | inl e ↦ rw (e, get_or-set_same w.stations p s blank (omega (arith, i.wide)))
          (record { round = same ∙ old.round; limit = old.limit; state = old.state; live = live })
      | inr e ↦ seat_kept R values (heard_in t.triples) (heard_in t.triples) t.rounds t.rounds (λ k q l. (l, refl))
          (t.notes p') (notes p') (station w p') (get_or (set w.stations p s) p' blank) (state_of R w p') (state_of R w p')
          w.n w.letters letters p' refl (λ r q. en p' r q e) (get_or-set_other w.stations p p' s blank e) refl i.n_is (λ j l. el p' j e l) (i.seats p' h')
    ];
    entries_are = i.entries_are;
    book_is = i.book_is;
    over = i.over;
    whole = i.whole;
    among = i.among;
    known = i.known;
  }
