-- A book's words by station and round name the same senders as the book.
use Rattle.std.proofs.Common.{◌≡◌, ℕ, ◌+◌, ◌*◌, ◌/◌, ◌^◌, ◌<◌, ◌≤◌, eqb, List, [], ◌∷◌, get_or, set, replicate, sym, refl, ap, ◌∙◌, inl, inr, arith}
use Rattle.std.proofs.Common.{length-set, get_or-set_other, get_or-set_same}
use lib.ListN.{length-replicate}
use Rattle.std.proofs.lemmas.Bool.{eq-eqb, ne_eqb, cases_eq, cond-true, cond-false}
use Rattle.lists.specs.Lists.{tabulate}
use Rattle.lists.proofs.Tables.{tabulate_same, get_or_replicate_all}
use Rattle.stations.specs.declared.TheConstants.{STATIONS}
use Rattle.frames.specs.declared.TheConstants.{ROUNDS}
use Rattle.frames.specs.declared.index.TheConstants.{PLACES}
use Rattle.stations.specs.Stations.{none}
use Rattle.frames.specs.Book.{station_in, round_in, senders_in, heard_set, heard_sets}
use Rattle.frames.specs.Index.{first_at, Indexes}
use Rattle.frames.proofs.Sets.{set_named, other_station, other_round, sets_passed, sets_empty}

-- ---- the index
-- no word is read: 0 stands at every place
pub none_indexed : (n : ℕ) → n ≡ PLACES → Indexes (replicate n 0) []
none_indexed n e = record { whole = length-replicate n 0 ∙ e; first = λ place. get_or_replicate_all n place 0 }

-- one word more before the others: it takes its place
pub indexed_more : (words ws : List ℕ) (w : ℕ) → w < 2 ^ 64 → Indexes words ws → Indexes (set words (w / 2 ^ 48) w) (w ∷ ws)
indexed_more words ws w small index = record {
  whole = length-set words (w / 2 ^ 48) w ∙ index.whole;
  first = λ place. elim (cases_eq (w / 2 ^ 48) place) [
    | inl e ↦ rw (← e) (get_or-set_same words (w / 2 ^ 48) w 0 (omega (arith, index.whole))
        ∙ sym (cond-true (eqb (w / 2 ^ 48) (w / 2 ^ 48)) w _ (eq-eqb _ _ refl)))
    | inr apart ↦ get_or-set_other words (w / 2 ^ 48) place w 0 (λ e. apart (sym e))
        ∙ (index.first place ∙ sym (cond-false (eqb (w / 2 ^ 48) place) w _ (ne_eqb _ _ apart)))
  ];
}

-- ---- whom it names
-- the word at the place of p and k names whom the book names for both
place_heard : (book : List ℕ) (p k : ℕ) → k < ROUNDS → senders_in (first_at book (p * ROUNDS + k)) ≡ heard_set book p k
place_heard [] p k h = refl
place_heard (w ∷ ws) p k h = elim (cases_eq (station_in w) p) [
  | inr off ↦ ap senders_in (passed (λ e. off (omega arith))) ∙ (place_heard ws p k h ∙ sym (other_station w ws p k off))
  | inl station ↦ elim (cases_eq (round_in w) k) [
    | inr off ↦ ap senders_in (passed (λ e. off (omega arith))) ∙ (place_heard ws p k h ∙ sym (other_round w ws p k off))
    | inl round ↦ ap senders_in (cond-true (eqb (w / 2 ^ 48) (p * ROUNDS + k)) w _ (eq-eqb _ _ (omega arith))) ∙ sym (set_named w ws p k station round)
  ]
]
  where
    passed : (w / 2 ^ 48 ≡ p * ROUNDS + k → ⊥) → first_at (w ∷ ws) (p * ROUNDS + k) ≡ first_at ws (p * ROUNDS + k)
    passed apart = cond-false (eqb (w / 2 ^ 48) (p * ROUNDS + k)) w _ (ne_eqb _ _ apart)

pub sets_indexed : (words book : List ℕ) (k : ℕ) → Indexes words book → k < ROUNDS →
    tabulate STATIONS (λ p. senders_in (get_or words (p * ROUNDS + k) 0)) ≡ heard_sets book k
sets_indexed words book k index h =
    tabulate_same STATIONS (λ p. senders_in (get_or words (p * ROUNDS + k) 0)) (λ p. heard_set book p k)
    (λ p _. ap senders_in (index.first (p * ROUNDS + k)) ∙ place_heard book p k h)

-- no word is for a round past the last
pub sets_past : (book : List ℕ) (k : ℕ) → ROUNDS ≤ k → heard_sets book k ≡ replicate STATIONS none
sets_past [] k h = sets_empty k
sets_past (w ∷ ws) k h = sets_passed w ws k (λ e. omega arith) ∙ sets_past ws k h
