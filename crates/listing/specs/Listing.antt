-- The whole listing of a finished run. Every line ends in byte 10.
use Rattle.std.specs.Prelude.{ℕ, suc, List, [], ◌∷◌, ◌++◌, length}
use Rattle.protocol.specs.declared.types.Sight.{Sight}
use Rattle.listing.specs.declared.line.Line.{Line}
use Rattle.schedule_text.specs.declared.types.Fault.{Fault}
use Rattle.listing.specs.declared.printer.RefusedStep.{RefusedStep}
use Rattle.listing.specs.Lines.{line_text, refusal_text, station_text, book_text, fault_text}
use Rattle.listing.specs.Reception.{reception_of}
use Rattle.schedule_text.specs.Writing.{ended}

-- what is printed of a line's cells
abbrev pub printed_line : Line → List ℕ
printed_line line = ended (line_text line)

abbrev pub refusals_text : List RefusedStep → List ℕ
refusals_text [] = []
refusals_text (r ∷ rs) = ended (refusal_text r.line r.refusal) ++ refusals_text rs

-- the lines of the stations from number p on, of n stations
abbrev pub stations_from : ℕ → List ℕ → ℕ → List Sight → List ℕ
stations_from n book p [] = []
stations_from n book p (s ∷ ss) = ended (station_text p s (reception_of n p book)) ++ stations_from n book (suc p) ss

-- refusals first, then stations, then the number of entries
abbrev pub listing_text : List RefusedStep → List Sight → List ℕ → List ℕ
listing_text refused stations book =
    refusals_text refused ++ stations_from (length stations) book 0 stations ++ ended (book_text (length book))

abbrev pub fault_listing_text : Fault → List ℕ
fault_listing_text fault = ended (fault_text fault)
