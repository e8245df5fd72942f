-- Whom a book's words name, one word more.
use Rattle.std.proofs.Common.{◌≡◌, ℕ, zero, suc, ◌<◌, List, [], ◌∷◌, ◌++◌, set, replicate, Some, None, Option, sym, refl, ap, ◌∙◌, inl, inr}
use Rattle.std.proofs.Math.Seq.{append_snoc}
use Rattle.std.specs.List.{find, push}
use Rattle.std.specs.Option.{MatchOption, option_map, option_map_or}
use Rattle.std.proofs.lemmas.Bool.{eq-eqb, ne_eqb, and_left, and_right, and_from, cases_Bool, cond-true, cond-false, cond_both}
use Rattle.lists.proofs.Tables.{tabulate_same, tabulate_set, get_or_tabulate}
use Rattle.stations.specs.declared.StationSet.{StationSet}
use Rattle.stations.specs.declared.TheConstants.{STATIONS}
use Rattle.stations.specs.Stations.{contains, none}
use Rattle.frames.specs.Book.{station_in, round_in, senders_in, is_for, heard_set, book_heard, heard_sets, hears}

-- ---- one station
module _ (w : ℕ) (ws : List ℕ) (p k : ℕ) where
  -- the first word for both counts
  pub set_named : station_in w ≡ p → round_in w ≡ k → heard_set (w ∷ ws) p k ≡ senders_in w
  set_named station round = cond-true (is_for p k w) (senders_in w) (heard_set ws p k) (and_from _ _ (eq-eqb _ p station) (eq-eqb _ k round))

  -- a word for another station or round is passed over
  pub other_station : (station_in w ≡ p → ⊥) → heard_set (w ∷ ws) p k ≡ heard_set ws p k
  other_station off = cond-false (is_for p k w) (senders_in w) (heard_set ws p k) (and_left _ _ (ne_eqb _ p off))

  pub other_round : (round_in w ≡ k → ⊥) → heard_set (w ∷ ws) p k ≡ heard_set ws p k
  other_round off = cond-false (is_for p k w) (senders_in w) (heard_set ws p k) (and_right _ _ (ne_eqb _ k off))

-- the senders of the first word for both that a search finds, or nobody
set_first : (ws : List ℕ) (p k : ℕ) → option_map_or senders_in (find (is_for p k) ws) none ≡ heard_set ws p k
set_first [] p k = refl
set_first (w ∷ ws) p k = elim (cases_Bool (is_for p k w)) [
  | inl both ↦ rw both
  | inr other ↦ rw other (set_first ws p k)
]

pub set_found : (found : Option ℕ) (set : StationSet) (ws : List ℕ) (p k : ℕ) → option_map (λ w. w) found ≡ find (is_for p k) ws →
    MatchOption found (set ≡ none) (λ w. set ≡ senders_in w) → set ≡ heard_set ws p k
set_found None set ws p k e nobody = nobody ∙ rw (← set_first ws p k, ← e)
set_found (Some w) set ws p k e named = named ∙ rw (← set_first ws p k, ← e)

-- ---- all stations
pub sets_named : (w : ℕ) (ws : List ℕ) (k : ℕ) → station_in w < STATIONS → round_in w ≡ k →
    heard_sets (w ∷ ws) k ≡ set (heard_sets ws k) (station_in w) (senders_in w)
sets_named w ws k within round =
    sym (tabulate_set STATIONS (λ p. heard_set ws p k) (λ p. heard_set (w ∷ ws) p k) (station_in w) (senders_in w) within
    (set_named w ws (station_in w) k refl round) (λ p _ apart. other_station w ws p k (λ e. apart (sym e))))

pub sets_passed : (w : ℕ) (ws : List ℕ) (k : ℕ) → (round_in w ≡ k → ⊥) → heard_sets (w ∷ ws) k ≡ heard_sets ws k
sets_passed w ws k off = tabulate_same STATIONS (λ p. heard_set (w ∷ ws) p k) (λ p. heard_set ws p k) (λ p _. other_round w ws p k off)

pub sets_empty : (k : ℕ) → heard_sets [] k ≡ replicate STATIONS none
sets_empty k = refl

-- whom p hears by the sets is whom the book's words name
pub sets_hear : (words : List ℕ) (k p q : ℕ) → p < STATIONS → hears (heard_sets words k) p q ≡ book_heard words p k q
sets_hear words k p q l = ap (λ s. contains s q) (get_or_tabulate STATIONS (λ x. heard_set words x k) p none l)

-- ---- words that are read from the last on
-- the last word that is left goes before those that are read
pub read_more : (rest left read words : List ℕ) (w : ℕ) → left ≡ push rest w → left ++ read ≡ words → rest ++ w ∷ read ≡ words
read_more rest left read words w last all = rw (← append_snoc rest w read, ← last) all

-- ---- zero words
-- a zero word names nobody
pub zeros_heard : (m p k : ℕ) → heard_set (replicate m 0) p k ≡ none
zeros_heard zero p k = refl
zeros_heard (suc m) p k = cond_both (is_for p k 0) none (heard_set (replicate m 0) p k) (λ s. s ≡ none) (λ _. refl) (λ _. zeros_heard m p k)

-- zero words after the others add nobody
pub zeros_after : (ws : List ℕ) (m p k : ℕ) → heard_set (ws ++ replicate m 0) p k ≡ heard_set ws p k
zeros_after [] m p k = zeros_heard m p k
zeros_after (w ∷ ws) m p k = rw (zeros_after ws m p k)
