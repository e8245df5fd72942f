-- How a world and a tally stand to one another after the same calls, and what stays of that as rounds go by.
use Rattle.std.proofs.Common.{◌≡◌, ℕ, ◌-◌, ◌<◌, ◌≤◌, Bool, true, false, ◌&&◌, ◌||◌, eqb, List, [], ◌∷◌, ◌++◌, map, length, get_or, replicate, Some}
use Rattle.std.proofs.Common.{None, Option, sym, ◌∙◌, arith}
use Rattle.std.specs.Result.{result_err}
use Rattle.std.specs.List.{slice_get}
use Rattle.std.proofs.lemmas.Bool.{or_parts, ltb-false, eqb-true, not-false}
use Rattle.rules.specs.declared.TheConstants.{LAST_ROUND}
use Rattle.stations.specs.Stations.{contains, Within}
use Rattle.rules.specs.Rule.{Behaviour, Heard, lockstep}
use Rattle.frames.specs.Frame.{frame_word}
use Rattle.protocol.specs.declared.types.Held.{Held}
use Rattle.protocol.specs.declared.types.StationRecord.{StationRecord}
use Rattle.protocol.specs.declared.refusal.Refusal.{Refusal}
use Rattle.protocol.specs.World.{World, station}
use Rattle.protocol.specs.Rows.{row_cells, letter_cells, row_cell, letter_cell, held_cell}
use Rattle.protocol.specs.Records.{is_fresh, is_down}
use Rattle.protocol.specs.Tests.{mismatched}
use Rattle.protocol.specs.Calls.{state_of}
use Rattle.protocol.specs.Refusals.{attempt}
use Rattle.protocol.proofs.Outcomes.{attempt_by}
use Rattle.protocol.specs.Tally.{Tally, Slip, Triple, heard_in, nowhere}
use Rattle.protocol.specs.Guarantee.{entry}
use Rattle.rules.specs.Runs.{Known}
use Rattle.protocol.proofs.Words.{Whole, Among}

-- the note that a held letter is
abbrev pub held : Option Held → ℕ → ℕ → Bool
held None r q = false
held (Some h) r q = eqb h.round r && eqb h.sender q

-- each triple is for a round that is over
abbrev pub Over : (ℕ → ℕ) → List Triple → Type 0
Over rounds [] = Unit {0}
Over rounds (t ∷ ts) = (t.round < rounds t.station) × Over rounds ts

module _ {S L : Type 0} (R : Behaviour S L) (values : List ℕ) where
  -- o is what q sends to p in round k, which q has begun
  pub record Brought (H : Heard) (rounds : ℕ → ℕ) (o : Option L) (q k p : ℕ) : Type 0 where
    pub sender : q < length values
    pub begun : k ≤ rounds q
    pub same : o ≡ R.letter (length values) q k (lockstep R values H k q) p

  -- a word of the pool and its slip
  pub record Carry (H : Heard) (rounds : ℕ → ℕ) (word : ℕ) (s : Slip) : Type 0 where
    pub letter : L
    pub word_is : word ≡ frame_word R ((s.sender, s.receiver, s.round, letter))
    pub to : s.receiver < length values
    pub brought : Brought H rounds (Some letter) s.sender s.round s.receiver

  -- a station that is not down: its notes, the letters in its row, and its held letter
  pub record Live (H : Heard) (rounds : ℕ → ℕ) (notes : ℕ → ℕ → Bool) (s : StationRecord) (n : ℕ) (letters : List L) (p : ℕ) : Type 0 where
    pub within : Within s.heard
    pub noted : (r q : ℕ) → rounds p ≤ r → notes r q ≡ ((eqb r (rounds p) && contains s.heard q) || held s.hold r q)
    pub marked : (q : ℕ) → contains s.heard q ≡ true → Brought H rounds (slice_get letters (letter_cell n p q)) q (rounds p) p
    pub holding : (h : Held) → s.hold ≡ Some h → Brought H rounds (slice_get letters (held_cell n p)) h.sender h.round p
    pub ahead : (h : Held) → s.hold ≡ Some h → rounds p ≤ h.round
    pub later : is_fresh s.stand ≡ false → (h : Held) → s.hold ≡ Some h → rounds p < h.round
    pub silent : is_fresh s.stand ≡ true → (q : ℕ) → contains s.heard q ≡ false

  pub record Seat (H : Heard) (rounds : ℕ → ℕ) (notes : ℕ → ℕ → Bool) (s : StationRecord) (x : S) (n : ℕ) (letters : List L) (p : ℕ) : Type 0 where
    pub round : s.round ≡ rounds p
    pub limit : rounds p ≤ LAST_ROUND
    pub state : x ≡ lockstep R values H (rounds p) p
    pub live : is_down s.stand ≡ false → Live H rounds notes s n letters p

  abbrev pub Seated : World S L → Tally → ℕ → Type 0
  Seated w t p =
      Seat (heard_in t.triples) t.rounds (t.notes p) (station w p) (state_of R w p) w.n w.letters p

  -- B is the length of the book
  pub record Inv (B : ℕ) (w : World S L) (t : Tally) : Type 0 where
    pub n_is : w.n ≡ length values
    pub book_len_is : w.book_len ≡ B
    pub wide : length values ≤ length w.stations
    pub room : w.frames ≤ w.pool_len
    pub frames_are : w.frames ≡ length t.slips
    pub carried : (i : ℕ) → i < length t.slips → Carry (heard_in t.triples) t.rounds (get_or w.pool i 0) (get_or t.slips i nowhere)
    pub seats : (p : ℕ) → p < length values → Seated w t p
    pub entries_are : w.entries ≡ length t.triples
    pub book_is : w.book ≡ map entry t.triples ++ replicate (B - length t.triples) 0
    pub over : Over t.rounds t.triples
    pub whole : Whole t.triples
    pub among : Among (length values) t.triples
    pub known : Known (heard_in t.triples) t.rounds

  -- ---- what stays as rounds go by
  abbrev pub Grows : Heard → (ℕ → ℕ) → Heard → (ℕ → ℕ) → Type 0
  Grows H rounds H' rounds' = (k q : ℕ) → k ≤ rounds q → (k ≤ rounds' q) × (lockstep R values H' k q ≡ lockstep R values H k q)

  module _ (H H' : Heard) (rounds rounds' : ℕ → ℕ) (g : Grows H rounds H' rounds') where
    pub brought_kept : (o : Option L) (q k p : ℕ) → Brought H rounds o q k p → Brought H' rounds' o q k p
    brought_kept o q k p b = record {
      sender = b.sender;
      begun = (g k q b.begun).0;
      same = let e : lockstep R values H' k q ≡ lockstep R values H k q = (g k q b.begun).1 in rw e b.same;
    }

    pub carry_kept : (word : ℕ) (s : Slip) → Carry H rounds word s → Carry H' rounds' word s
    carry_kept word s c = record {
      letter = c.letter;
      word_is = c.word_is;
      to = c.to;
      brought = brought_kept (Some c.letter) s.sender s.round s.receiver c.brought;
    }

    -- a station at which nothing changes
    pub seat_kept :
        (notes notes' : ℕ → ℕ → Bool) (s s' : StationRecord) (x x' : S) (n : ℕ) (letters letters' : List L) (p : ℕ) →
        rounds' p ≡ rounds p → ((r q : ℕ) → notes' r q ≡ notes r q) → s' ≡ s → x' ≡ x → n ≡ length values →
        ((i : ℕ) → i < row_cells n → slice_get letters' (row_cell n p i) ≡ slice_get letters (row_cell n p i)) →
        Seat H rounds notes s x n letters p → Seat H' rounds' notes' s' x' n letters' p
    seat_kept notes notes' s s' x x' n letters letters' p same noted es ex n_is el seat = rw (es, ex) (record {
      round = rw same seat.round;
      limit = rw same seat.limit;
      state = rw same (seat.state ∙ sym (g (rounds p) p (omega arith)).1);
      live = λ up. let a : Live H rounds notes s n letters p = seat.live up in record {
        within = a.within;
        noted = λ r q h. noted r q ∙ rw same (a.noted r q (rw same at h));
        marked = λ q m. let b = a.marked q m in rw (el q (omega (arith, b.sender, n_is)), same)
            (brought_kept (slice_get letters (letter_cell n p q)) q (rounds p) p b);
        holding = λ h e. rw (el n (omega arith)) (brought_kept (slice_get letters (held_cell n p)) h.sender h.round p (a.holding h e));
        ahead = λ h e. rw same (a.ahead h e);
        later = λ f h e. rw same (a.later f h e);
        silent = a.silent;
      };
    })

-- ---- refusals
module _ {S L : Type 0} (R : Behaviour S L) where
  -- the buffers have the lengths that they had at the opening
  pub record Matched (w : World S L) : Type 0 where
    pub states : w.n ≤ length w.states
    pub letters : letter_cells w.n ≤ length w.letters
    pub pool : length w.pool ≡ w.pool_len
    pub book : length w.book ≡ w.book_len

  pub matched : (w : World S L) → mismatched w ≡ false → Matched w
  matched w e =
      let a = or_parts _ _ e in
      let b = or_parts _ _ a.0 in
      let c = or_parts _ _ b.0 in
      record {
        states = ltb-false (length w.states) w.n c.0;
        letters = ltb-false (length w.letters) (letter_cells w.n) c.1;
        pool = eqb-true (length w.pool) w.pool_len (not-false _ b.1);
        book = eqb-true (length w.book) w.book_len (not-false _ a.1);
      }

  -- what a call comes to: the tally moves on if it is accepted, and stays if it is refused
  abbrev pub Follows : List ℕ → ℕ → Option Refusal → World S L → Tally → Tally → Type 0
  Follows values B None w t t' = Inv R values B w t'
  Follows values B (Some f) w t t' = Inv R values B w t

  pub attempted :
      {A : Type 0} (values : List ℕ) (B : ℕ) (w v : World S L) (o : Option Refusal) (a : A) (t t' : Tally) →
      Inv R values B w t → (o ≡ None → Inv R values B v t') →
      Follows values B (result_err (attempt w o a v).0) (attempt w o a v).1 t t'
  attempted values B w v o a t t' i f = attempt_by w v a (λ x. Follows values B (result_err x.0) x.1 t t') o (λ r e. i) f
