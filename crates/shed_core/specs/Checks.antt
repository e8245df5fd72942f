-- What a check of the shed answers.
use Rattle.std.specs.Prelude.{◌≡◌, ℕ, Bool, List, Some, None, Ok, Err, Result, slice_index_or}
use Rattle.protocol.specs.declared.types.StationRecord.{StationRecord}
use Rattle.protocol.specs.declared.types.Stand.{Stand}
use Rattle.protocol.specs.declared.types.Stand.TheVariants.{Fresh, Listening, Down}
use Rattle.protocol.specs.declared.refusal.Refusal.{Refusal}
use Rattle.protocol.specs.Refusals.{first_refusal}
use Rattle.protocol.specs.Records.{is_fresh, is_listening, is_down}
use Rattle.protocol.specs.Records.{blank}
use Rattle.shed_core.specs.declared.shed.Shed.{Shed}

-- a check answers what was asked for, or the first refusal
abbrev pub Checked : {A : Type 0} → List (Bool × Refusal) → A → Result A Refusal → Type 0
Checked tests asked (Ok x) = (first_refusal tests ≡ None) × (x ≡ asked)
Checked tests asked (Err f) = first_refusal tests ≡ Some f

abbrev pub record_of : Shed → ℕ → StationRecord
record_of s p = slice_index_or s.table.records p blank

-- whether the stand asked for, the first, is the station's, the second
abbrev pub is_in : Stand → Stand → Bool
is_in Fresh = is_fresh
is_in Listening = is_listening
is_in Down = is_down
