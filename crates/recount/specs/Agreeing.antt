-- Recount and the shed agree, after every list of a planner's calls.
use Rattle.std.specs.Prelude.{◌≡◌, ℕ, ◌+◌, ◌<◌, ◌≤◌, List, length, take, None, Ok, Result, slice_index_or}
use Rattle.rules.specs.Rule.{Behaviour}
use Rattle.protocol.specs.declared.refusal.Refusal.{Refusal}
use Rattle.protocol.specs.declared.types.Step.{Step}
use Rattle.protocol.specs.World.{World, station}
use Rattle.protocol.specs.Steps.{after}
use Rattle.protocol.specs.Calls.{open_refusal, opened, state_of}
use Rattle.recount.specs.Recount.{RecountBuffers, shortest}

-- the words are a shed's own book: its entries and any number of the words after them
abbrev pub OwnBook : {S L : Type 0} → World S L → List ℕ → Type 0
OwnBook w words = (more : ℕ) × (words ≡ take (w.entries + more) w.book)

-- after every list of calls from an accepted open of these values, recount over the shed's own book at the round that
-- station p is in, with buffers that are long enough, answers that round and leaves in cell p the state that p has
unfoldable pub Agrees : {S L : Type 0} → Behaviour S L → List ℕ → List ℕ → ℕ → RecountBuffers S L → Result ℕ Refusal → List S → Type 0
Agrees {S} {L} R values words round b answer cells =
    (fresh : World S L) (calls : List Step) (p : ℕ) → open_refusal R fresh values ≡ None → p < length values →
    OwnBook (after R (opened R fresh values) calls) words → round ≡ (station (after R (opened R fresh values) calls) p).round → length values ≤ shortest b →
    (answer ≡ Ok round) × ((d : S) → slice_index_or cells p d ≡ state_of R (after R (opened R fresh values) calls) p)
