-- The lines of a listing, byte by byte.
use Rattle.std.specs.Prelude.{◌≡◌, ℕ, ◌-◌, ◌≤◌, List, ◌++◌, length, take, replicate, Some, None, codes, decimal, Option}
use Rattle.protocol.specs.declared.types.Sight.{Sight}
use Rattle.protocol.specs.declared.types.Stand.{Stand}
use Rattle.protocol.specs.declared.types.Stand.TheVariants.{Fresh, Listening, Down}
use Rattle.protocol.specs.declared.refusal.Refusal.{Refusal}
use Rattle.protocol.specs.Refusals.{refusal_number}
use Rattle.schedule_text.specs.declared.types.Fault.{Fault}
use Rattle.schedule_text.specs.Faults.{fault_number, fault_line}
use Rattle.listing.specs.declared.line.Line.{Line}

-- ---- a line of 64 cells
-- its text, without the blanks after it
abbrev pub line_text : Line → List ℕ
line_text line = take line.filled line.cells

-- the cells hold the text, and blanks after it
pub record HoldsText (line : Line) (text : List ℕ) : Type 0 where
  pub fits : length text ≤ 64
  pub cells : line.cells ≡ text ++ replicate (64 - length text) 32
  pub length_is : line.filled ≡ length text

-- ---- the lines
abbrev pub refusal_text : ℕ → Refusal → List ℕ
refusal_text line refusal = codes "line " ++ decimal line ++ codes " refused " ++ decimal (refusal_number refusal)

abbrev pub stand_text : Stand → List ℕ
stand_text Fresh = codes " up"
stand_text Listening = codes " up"
stand_text Down = codes " down"

abbrev pub hull_text : Option ℕ → List ℕ
hull_text None = codes " hull none"
hull_text (Some hull) = codes " hull " ++ decimal hull

-- a station, what is seen of it, and its reception
abbrev pub station_text : ℕ → Sight → ℕ → List ℕ
station_text station sight air =
    codes "station " ++ decimal station ++ stand_text sight.stand ++ codes " round " ++ decimal sight.round ++ hull_text sight.hull
    ++ codes " air " ++ decimal air

abbrev pub book_text : ℕ → List ℕ
book_text entries = codes "book " ++ decimal entries

abbrev pub fault_text : Fault → List ℕ
fault_text fault = codes "fault " ++ decimal (fault_number fault) ++ codes " line " ++ decimal (fault_line fault)
