-- What is found after every list of a planner's calls, for every rule that keeps its laws.
use Rattle.std.specs.Prelude.{◌≡◌, ℕ, ◌-◌, ◌^◌, ◌<◌, ◌≤◌, Bool, List, [], ◌∷◌, ◌++◌, map, length, take, replicate, count_by, Some, None, Ok, Option}
use Rattle.std.specs.Prelude.{◌==◌, slice_index}
use Rattle.rules.specs.declared.TheConstants.{LAST_ROUND}
use Rattle.rules.specs.Rule.{Behaviour, Interface, Laws, Ranges, lockstep}
use Rattle.protocol.specs.declared.refusal.Refusal.{Refusal}
use Rattle.protocol.specs.declared.types.Step.{Step}
use Rattle.protocol.specs.declared.types.Step.TheVariants.{Send, Deliver, Drop, Repeat, Turn, Crash}
use Rattle.frames.specs.Book.{entry_word, station_in, round_in, book_heard}
use Rattle.protocol.specs.declared.TheConstants.{MAX_POOL, MAX_BOOK}
use Rattle.protocol.specs.Rows.{letter_cells}
use Rattle.protocol.specs.Sound.{NamesStations}
use Rattle.protocol.specs.World.{World, station}
use Rattle.protocol.specs.Steps.{after, refusals}
use Rattle.protocol.specs.Calls.{open_refusal, opened, state_of, sight_of, look_call}
use Rattle.protocol.specs.Tally.{Tally, Triple, start, tally}

-- ---- the accepted turns of a list of calls
-- the station that a step turns, if the step is a turn
abbrev pub turned_by : Step → List ℕ
turned_by (Send p) = []
turned_by (Deliver k) = []
turned_by (Drop k) = []
turned_by (Repeat k) = []
turned_by (Turn p) = p ∷ []
turned_by (Crash p) = []

-- the stations of the accepted turns, in the order of the calls
abbrev pub accepted_turns : List Step → List (Option Refusal) → List ℕ
accepted_turns [] fs = []
accepted_turns (c ∷ cs) [] = []
accepted_turns (c ∷ cs) (Some f ∷ fs) = accepted_turns cs fs
accepted_turns (c ∷ cs) (None ∷ fs) = turned_by c ++ accepted_turns cs fs

-- how many of some turns are p's
abbrev pub turns_by : ℕ → List ℕ → ℕ
turns_by p turns = count_by (λ q. q == p) turns

-- the entries of these turns, in their order: as many, and each names the station that turned and, as the round that it
-- finished, how often it had turned before; so a station's turns are its entries for round 0, 1, 2 and so on
pub record EntryForEach (turns : List ℕ) (entries : ℕ) (book : List ℕ) : Type 0 where
  pub as_many : entries ≡ length turns
  pub station : (i : ℕ) → i < length turns → station_in (slice_index book i) ≡ slice_index turns i
  pub round : (i : ℕ) → i < length turns → round_in (slice_index book i) ≡ turns_by (slice_index turns i) (take i turns)

-- ---- sizes
-- an open shed: it has 1 to most stations, a state and a row of letters for each, and a pool and a book of as many words
-- as at its opening
pub record Sized {S L : Type 0} (R : Behaviour S L) (values : List ℕ) (w : World S L) : Type 0 where
  pub some : 1 ≤ length values
  pub few : length values ≤ R.most
  pub stations : w.n ≡ length values
  pub states : length values ≤ length w.states
  pub letters : letter_cells (length values) ≤ length w.letters
  pub pool : length w.pool ≡ w.pool_len
  pub pool_some : 1 ≤ w.pool_len
  pub pool_few : w.pool_len ≤ MAX_POOL
  pub book : length w.book ≡ w.book_len
  pub book_few : w.book_len ≤ MAX_BOOK

-- ---- the guarantee
-- the book's word of a triple
abbrev pub entry : Triple → ℕ
entry t = entry_word t.station t.round t.heard

-- values are the opening values, w the shed with its buffers as open leaves it
module _ {S L : Type 0} (R : Behaviour S L) (values : List ℕ) (w : World S L) where
  -- the tally of a list of calls
  abbrev pub tally_of : List Step → Tally
  tally_of calls = tally R values start calls (refusals R w calls)

  -- the stations of the turns among them that are accepted
  abbrev pub turns_in : List Step → List ℕ
  turns_in calls = accepted_turns calls (refusals R w calls)

  -- what the calls leave, and what is found there of station p: its round, its state, and the hull that it shows
  abbrev pub left : List Step → World S L
  left calls = after R w calls

  abbrev pub round_of : List Step → ℕ → ℕ
  round_of calls p = (station (left calls) p).round

  abbrev pub hull_of : List Step → ℕ → Option ℕ
  hull_of calls p = R.hull (state_of R (left calls) p)

  pub record Guarantee (calls : List Step) : Type 0 where
    -- the book has one entry for each accepted turn, in the order of the calls, for its station and round
    pub in_order : EntryForEach (turns_in calls) (left calls).entries (left calls).book
    -- no entry names a station that does not exist, neither the one that turned nor a sender
    pub named : (i : ℕ) → i < (left calls).entries → NamesStations (length values) (slice_index (left calls).book i)
    -- each entry names exactly the senders that the tally noted for its station and round; then come zeros
    pub recorded : (left calls).book ≡ map entry (tally_of calls).triples ++ replicate (length w.book - length (tally_of calls).triples) 0
    pub filled : (left calls).entries ≡ length (tally_of calls).triples
    pub fits : (left calls).entries ≤ length (left calls).book
    -- each station's round is the number of its accepted turns, and none is past the last
    pub counted : (p : ℕ) → p < length values → round_of calls p ≡ turns_by p (turns_in calls)
    pub limited : (p : ℕ) → p < length values → round_of calls p ≤ LAST_ROUND
    -- the shed stays open, and a look at a station is never refused: it answers the stand, the round and the hull or none
    pub sized : Sized R values (left calls)
    pub seen : (p : ℕ) → p < length values → look_call R (left calls) p ≡ (Ok (sight_of R (left calls) p), left calls)
    -- one lockstep run, over the senders that the book names, gives each station's state at its round
    pub refined : (p : ℕ) → p < length values → state_of R (left calls) p ≡ lockstep R values (book_heard (left calls).book) (round_of calls p) p
    -- no two stations show different hulls, crashed ones too
    pub agreed : (p q a b : ℕ) → p < length values → q < length values → hull_of calls p ≡ Some a → hull_of calls q ≡ Some b → a ≡ b
    -- a hull that is shown is an opening value
    pub valid : (p h : ℕ) → p < length values → hull_of calls p ≡ Some h → (q : ℕ) × (q < length values) × (slice_index values q ≡ h)
    -- a hull that is shown is shown after every continuation of the list
    pub kept : (p h : ℕ) (more : List Step) → p < length values → hull_of calls p ≡ Some h → hull_of (calls ++ more) p ≡ Some h

-- the guarantee, whole: for every new shed and buffers that open accepts, and every list of calls
abbrev pub Guaranteed : {S L : Type 0} → Behaviour S L → Type 0
Guaranteed {S} {L} R =
    (letter_fits : L → Bool) → Interface R → Laws R letter_fits → Ranges R letter_fits → (new : World S L) (values : List ℕ) →
    ((p : ℕ) → p < length values → slice_index values p < 2 ^ 16) →
    open_refusal R new values ≡ None → (calls : List Step) → Guarantee R values (opened R new values) calls
