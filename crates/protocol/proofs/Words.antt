-- The book's words name the senders that its triples name.
use Rattle.std.proofs.Common.{◌≡◌, ℕ, zero, suc, ◌<◌, ◌≤◌, Bool, true, false, cond, ◌&&◌, eqb, List, [], ◌∷◌, ◌++◌, map, length, get_or, replicate}
use Rattle.std.proofs.Common.{sym, refl, ap, ◌∙◌, arith}
use Rattle.rules.specs.declared.TheConstants.{LAST_ROUND}
use Rattle.stations.specs.declared.StationSet.{StationSet}
use Rattle.stations.specs.Stations.{contains, Within}
use Rattle.stations.proofs.Laws.{set_laws}
use Rattle.frames.specs.Book.{heard_set, book_heard}
use Rattle.frames.proofs.Laws.{book_laws}
use Rattle.protocol.specs.Sound.{NamesStations}
use Rattle.protocol.specs.Tally.{Triple, heard_in}
use Rattle.protocol.specs.Guarantee.{entry}

-- each triple is for a round up to the last, and no bit of its set is for no station
abbrev pub Whole : List Triple → Type 0
Whole [] = Unit {0}
Whole (t ∷ ts) = (t.round ≤ LAST_ROUND) × Within t.heard × Whole ts

of_either : (b : Bool) (s s' : StationSet) (r : Bool) (q : ℕ) → contains s' q ≡ r → contains (cond b s s') q ≡ cond b (contains s q) r
of_either true s s' r q e = refl
of_either false s s' r q e = e

-- the book's words name the senders that its triples name
pub book_agrees : (ts : List Triple) (m x y q : ℕ) → Whole ts → book_heard (map entry ts ++ replicate m 0) x y q ≡ heard_in ts x y q
book_agrees [] m x y q h = ap (λ s. contains s q) (book_laws.zeros m x y) ∙ set_laws.contains_none q
book_agrees (t ∷ ts) m x y q h =
    let rest : List ℕ = map entry ts ++ replicate m 0 in
    rw (
      book_laws.station t.station t.round t.heard h.1 h.0,
      book_laws.round t.station t.round t.heard h.1 h.0,
      book_laws.senders t.station t.round t.heard h.1,
    ) (of_either (eqb t.station x && eqb t.round y) t.heard (heard_set rest x y) (heard_in ts x y q) q (book_agrees ts m x y q h.2))

-- each triple is of one of n stations, and only of these does it name senders
abbrev pub Among : ℕ → List Triple → Type 0
Among n [] = Unit {0}
Among n (t ∷ ts) = (t.station < n) × ((q : ℕ) → contains t.heard q ≡ true → q < n) × Among n ts

-- and so the book's words name no other stations
pub entries_name : (n : ℕ) (ts : List Triple) (m i : ℕ) → Whole ts → Among n ts → i < length ts → NamesStations n (get_or (map entry ts ++ replicate m 0) i 0)
entries_name n [] m i whole among l = absurd (omega arith)
entries_name n (t ∷ ts) m zero whole among l = record {
  turner = rw (book_laws.station t.station t.round t.heard whole.1 whole.0) among.0;
  senders = λ q e. among.1 q (sym (ap (λ s. contains s q) (book_laws.senders t.station t.round t.heard whole.1)) ∙ e);
}
entries_name n (t ∷ ts) m (suc i) whole among l = entries_name n ts m i whole.2 among.2 (omega arith)
