-- The triples of a tally are those of the accepted turns, in their order, and each is for the round that its station finished.
use Rattle.std.proofs.Common.{◌≡◌, ℕ, zero, suc, ◌+◌, ◌<◌, cond, eqb, List, [], ◌∷◌, ◌++◌, map, length, take, get_or, replicate, Some, None, Option}
use Rattle.std.proofs.Common.{sym, refl, ap, ◌∙◌, subst, inl, inr, append-nil, append_assoc, arith}
use Rattle.std.proofs.lemmas.Bool.{cases_eq, eq-eqb, ne_eqb}
use Rattle.std.proofs.lemmas.List.{map-append, length-map, length-append, get_or_append_left, take-append-le}
use Rattle.std.proofs.lemmas.List.Sums.{sum_by-append}
use Rattle.std.proofs.Math.Seq.{get_or-append_seam, take-append_seam}
use Rattle.rules.specs.Rule.{Behaviour}
use Rattle.frames.specs.Book.{station_in, round_in}
use Rattle.frames.proofs.Laws.{book_laws}
use Rattle.protocol.specs.declared.refusal.Refusal.{Refusal}
use Rattle.protocol.specs.declared.types.Step.{Step}
use Rattle.protocol.specs.declared.types.Step.TheVariants.{Send, Deliver, Drop, Repeat, Turn, Crash}
use Rattle.protocol.specs.Tally.{Tally, Triple, start, tally, tally_accepted}
use Rattle.protocol.specs.Guarantee.{turned_by, accepted_turns, turns_by, entry, EntryForEach}
use Rattle.protocol.proofs.Words.{Whole}

abbrev pub stations_of : List Triple → List ℕ
stations_of ts = map (λ t. t.station) ts

abbrev rounds_of : List Triple → List ℕ
rounds_of ts = map (λ t. t.round) ts

-- ---- turns, and how often each station turned before
turns_more : (p q : ℕ) (turns : List ℕ) → turns_by q (turns ++ p ∷ []) ≡ turns_by q turns + cond (eqb p q) 1 0
turns_more p q turns = sum_by-append (λ x. cond (eqb x q) 1 0) turns (p ∷ []) ∙ omega arith

-- turns with rounds, of which each is how often its station turned before
abbrev Numbered : List ℕ → List ℕ → Type 0
Numbered turns rounds = (i : ℕ) → i < length turns → get_or rounds i 0 ≡ turns_by (get_or turns i 0) (take i turns)

numbered_more : (turns rounds : List ℕ) (p : ℕ) → length rounds ≡ length turns → Numbered turns rounds →
    Numbered (turns ++ p ∷ []) (rounds ++ turns_by p turns ∷ [])
numbered_more turns rounds p many each i h = elim (cases_eq i (length turns)) [
  | inl e ↦ rw (e, get_or-append_seam turns p [] 0, take-append_seam turns (p ∷ [])) (rw (sym many) (get_or-append_seam rounds (turns_by p turns) [] 0))
  | inr e ↦
      let more : length (turns ++ p ∷ []) ≡ length turns + 1 = length-append turns (p ∷ []) in
      let within : i < length turns = omega arith in
      let below : i < length rounds = omega arith in
      rw (
        get_or_append_left turns (p ∷ []) 0 i within,
        take-append-le i turns (p ∷ []) (omega arith),
        get_or_append_left rounds (turns_by p turns ∷ []) 0 i below,
      ) (each i within)
]

-- ---- the tally
pub record Counts (t : Tally) : Type 0 where
  pub rounds : (p : ℕ) → t.rounds p ≡ turns_by p (stations_of t.triples)
  pub each : Numbered (stations_of t.triples) (rounds_of t.triples)

round_more : (rounds : ℕ → ℕ) (turns : List ℕ) (p q : ℕ) → rounds p ≡ turns_by p turns → rounds q ≡ turns_by q turns →
    cond (eqb q p) (rounds p + 1) (rounds q) ≡ turns_by q (turns ++ p ∷ [])
round_more rounds turns p q at_p at_q = elim (cases_eq q p) [
  | inl e ↦ rw (turns_more p q turns, e, eq-eqb p p refl) (omega (arith, at_p))
  | inr e ↦ rw (turns_more p q turns, ne_eqb q p e, ne_eqb p q (λ z. e (sym z))) (omega (arith, at_q))
]

module _ {S L : Type 0} (R : Behaviour S L) (values : List ℕ) where
  call_turns : (t : Tally) (c : Step) → stations_of (tally_accepted R values t c).triples ≡ stations_of t.triples ++ turned_by c
  unfolding tally_accepted
  call_turns t (Send p) = sym (append-nil _)
  call_turns t (Deliver k) = sym (append-nil _)
  call_turns t (Drop k) = sym (append-nil _)
  call_turns t (Repeat k) = sym (append-nil _)
  call_turns t (Turn p) = map-append (λ t. t.station) t.triples _
  call_turns t (Crash p) = sym (append-nil _)

  pub tally_turns : (cs : List Step) (fs : List (Option Refusal)) (t : Tally) →
      stations_of (tally R values t cs fs).triples ≡ stations_of t.triples ++ accepted_turns cs fs
  unfolding tally
  tally_turns [] fs t = sym (append-nil _)
  tally_turns (c ∷ cs) [] t = sym (append-nil _)
  tally_turns (c ∷ cs) (Some f ∷ fs) t = tally_turns cs fs t
  tally_turns (c ∷ cs) (None ∷ fs) t =
      tally_turns cs fs (tally_accepted R values t c) ∙ ap (λ xs. xs ++ accepted_turns cs fs) (call_turns t c)
      ∙ append_assoc (stations_of t.triples) (turned_by c) (accepted_turns cs fs)

  call_counts : (t : Tally) (c : Step) → Counts t → Counts (tally_accepted R values t c)
  unfolding tally_accepted
  call_counts t (Send p) n = record { rounds = n.rounds; each = n.each }
  call_counts t (Deliver k) n = record { rounds = n.rounds; each = n.each }
  call_counts t (Drop k) n = record { rounds = n.rounds; each = n.each }
  call_counts t (Repeat k) n = record { rounds = n.rounds; each = n.each }
  call_counts t (Turn p) n =
      let turns = stations_of t.triples in
      let many : length (rounds_of t.triples) ≡ length turns = length-map t.triples (λ t. t.round) ∙ sym (length-map t.triples (λ t. t.station)) in
      record {
        rounds = λ q. rw (map-append (λ t. t.station) t.triples) (round_more t.rounds turns p q (n.rounds p) (n.rounds q));
        each = rw (map-append (λ t. t.station) t.triples, map-append (λ t. t.round) t.triples, n.rounds p)
            (numbered_more turns (rounds_of t.triples) p many n.each);
      }
  call_counts t (Crash p) n = record { rounds = n.rounds; each = n.each }

  pub tally_counts : (cs : List Step) (fs : List (Option Refusal)) (t : Tally) → Counts t → Counts (tally R values t cs fs)
  unfolding tally
  tally_counts [] fs t n = n
  tally_counts (c ∷ cs) [] t n = n
  tally_counts (c ∷ cs) (Some f ∷ fs) t n = tally_counts cs fs t n
  tally_counts (c ∷ cs) (None ∷ fs) t n = tally_counts cs fs (tally_accepted R values t c) (call_counts t c n)

pub start_counts : Counts start
start_counts = record { rounds = λ p. refl; each = λ i h. absurd (omega arith) }

-- ---- the book's words
word_station : (ts : List Triple) (m i : ℕ) → Whole ts → i < length ts →
    station_in (get_or (map entry ts ++ replicate m 0) i 0) ≡ get_or (stations_of ts) i 0
word_station [] m i h l = absurd (omega arith)
word_station (t ∷ ts) m zero h l = book_laws.station t.station t.round t.heard h.1 h.0
word_station (t ∷ ts) m (suc i) h l = word_station ts m i h.2 (omega arith)

word_round : (ts : List Triple) (m i : ℕ) → Whole ts → i < length ts → round_in (get_or (map entry ts ++ replicate m 0) i 0) ≡ get_or (rounds_of ts) i 0
word_round [] m i h l = absurd (omega arith)
word_round (t ∷ ts) m zero h l = book_laws.round t.station t.round t.heard h.1 h.0
word_round (t ∷ ts) m (suc i) h l = word_round ts m i h.2 (omega arith)

-- the entries of a tally's triples are those of its turns
pub entry_for_each : (u : Tally) (turns : List ℕ) (m : ℕ) → stations_of u.triples ≡ turns → Whole u.triples → Counts u →
    EntryForEach turns (length u.triples) (map entry u.triples ++ replicate m 0)
entry_for_each u turns m same whole counts =
    let many : length (stations_of u.triples) ≡ length u.triples = length-map u.triples (λ t. t.station) in
    subst (λ x. EntryForEach x (length u.triples) (map entry u.triples ++ replicate m 0)) same (record {
      as_many = sym many;
      station = λ i h. word_station u.triples m i whole (omega arith);
      round = λ i h. word_round u.triples m i whole (omega arith) ∙ counts.each i h;
    })
