-- A shed with its buffers, as a value, and what a call's answer and buffers come to.
use Rattle.std.specs.Prelude.{◌≡◌, ℕ, List, replicate}
use Rattle.stations.specs.declared.TheConstants.{STATIONS}
use Rattle.protocol.specs.Records.{blank}
use Rattle.protocol.specs.World.{World, shut}
use Rattle.shed_core.specs.declared.shed.Shed.{Shed}
use Rattle.shed_core.specs.declared.buffers.Buffers.{Buffers}

abbrev pub world : {S L : Type 0} → Shed → List S → List L → List ℕ → List ℕ → World S L
world s states letters pool book = record {
  n = s.count;
  pool_len = s.pool_len;
  book_len = s.book_len;
  frames = s.frames;
  entries = s.entries;
  stations = s.table.records;
  states = states;
  letters = letters;
  pool = pool;
  book = book;
}

-- with the buffers that a call is lent
abbrev pub world_of : {S L : Type 0} → Shed → Buffers S L → World S L
world_of s b = world s b.states.now b.letters.now b.pool.now b.book.now

-- a new shed with these buffers
abbrev pub shut_with : {S L : Type 0} → Buffers S L → World S L
shut_with b = shut b.states.now b.letters.now b.pool.now b.book.now

-- a call leaves the buffers in the places where they were lent
pub record StillLent {S L : Type 0} (before after : Buffers S L) : Type 0 where
  pub same_states : after.states.ghost_name ≡ before.states.ghost_name
  pub same_letters : after.letters.ghost_name ≡ before.letters.ghost_name
  pub same_pool : after.pool.ghost_name ≡ before.pool.ghost_name
  pub same_book : after.book.ghost_name ≡ before.book.ghost_name

-- a call answered and left what its definition gives
pub record ComesTo {A S L : Type 0} (answer : A) (after : World S L) (outcome : A × World S L) : Type 0 where
  pub answers : answer ≡ outcome.0
  pub leaves : after ≡ outcome.1

-- a shed that differs at most in its records
pub record SameCounts (before after : Shed) : Type 0 where
  pub same_count : after.count ≡ before.count
  pub same_pool : after.pool_len ≡ before.pool_len
  pub same_book : after.book_len ≡ before.book_len
  pub same_frames : after.frames ≡ before.frames
  pub same_entries : after.entries ≡ before.entries

-- a new shed: shut, and with nothing in it
pub record IsNew (s : Shed) : Type 0 where
  pub shut : s.count ≡ 0
  pub no_pool : s.pool_len ≡ 0
  pub no_book : s.book_len ≡ 0
  pub no_frames : s.frames ≡ 0
  pub no_entries : s.entries ≡ 0
  pub blanks : s.table.records ≡ replicate STATIONS blank
