-- The shed and its four buffers as one value.
use Rattle.std.specs.Prelude.{ℕ, List, replicate, slice_index_or}
use Rattle.stations.specs.declared.TheConstants.{STATIONS}
use Rattle.protocol.specs.declared.types.StationRecord.{StationRecord}
use Rattle.protocol.specs.Records.{blank}

pub record World (S L : Type 0) : Type 0 where
  -- the number of stations, 0 while the shed is shut
  pub n : ℕ
  -- the lengths that the pool and the book had at opening
  pub pool_len : ℕ
  pub book_len : ℕ
  -- how many frames the pool has, and how many entries the book
  pub frames : ℕ
  pub entries : ℕ
  -- a record for each station
  pub stations : List StationRecord
  -- the four buffers: a state for each station, a row of letters for each station, and two of words
  pub states : List S
  pub letters : List L
  pub pool : List ℕ
  pub book : List ℕ

-- the record of station p
abbrev pub station : {S L : Type 0} → World S L → ℕ → StationRecord
station w p = slice_index_or w.stations p blank

-- a new shed with four buffers
abbrev pub shut : {S L : Type 0} → List S → List L → List ℕ → List ℕ → World S L
shut states letters pool book = record {
  n = 0;
  pool_len = 0;
  book_len = 0;
  frames = 0;
  entries = 0;
  stations = replicate STATIONS blank;
  states = states;
  letters = letters;
  pool = pool;
  book = book;
}
