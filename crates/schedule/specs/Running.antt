-- What a run comes to, part by part: what is seen after it, and its listing.
use Rattle.std.specs.Prelude.{◌≡◌, ℕ, ◌<◌, List, Some, Ok, Err, vec_items, Result, Vec}
use Rattle.std.specs.declared.alloc.Global.{Global}
use Rattle.rules.specs.Rule.{Behaviour}
use Rattle.protocol.specs.declared.types.Sight.{Sight}
use Rattle.protocol.specs.declared.types.Step.{Step}
use Rattle.protocol.specs.World.{World}
use Rattle.protocol.specs.Calls.{open_refusal, look_refusal}
use Rattle.protocol.specs.declared.refusal.Refusal.{Refusal}
use Rattle.schedule_text.specs.declared.halt.Halt.{Halt}
use Rattle.schedule_text.specs.declared.halt.Halt.TheVariants.{Refused, NoMemory}
use Rattle.schedule.specs.Program.{sights, run_listing, played, ListsOneHull}
use Rattle.schedule_text.specs.Reading.{Plan}

-- what is seen of the stations below n, or why one of them is not shown
abbrev pub Seen : {S L : Type 0} → Behaviour S L → World S L → ℕ → Result (Vec Sight Global) (Halt Refusal) → Type 0
Seen R w n (Ok v) = vec_items v ≡ sights R w n
Seen R w n (Err (Refused f)) = (p : ℕ) × (p < n) × (look_refusal R w p ≡ Some f)
Seen R w n (Err NoMemory) = Unit {0}

-- what a run prints: the listing, with at most one hull; only the opening is refused
pub record Listed {S L : Type 0} (R : Behaviour S L) (new : World S L) (values : List ℕ) (steps : List Step) (out : List ℕ) : Type 0 where
  pub is : out ≡ run_listing R new values steps
  pub safe : ListsOneHull values out

abbrev pub Runs : {S L : Type 0} → Behaviour S L → World S L → List ℕ → List Step → Result (Vec ℕ Global) (Halt Refusal) → Type 0
Runs R new values steps (Ok v) = Listed R new values steps (vec_items v)
Runs R new values steps (Err (Refused f)) = open_refusal R new values ≡ Some f
Runs R new values steps (Err NoMemory) = Unit {0}

-- whatever came of a run, its opening was not refused
abbrev pub Unrefused : Result (Vec ℕ Global) (Halt Refusal) → Type 0
Unrefused (Ok v) = Unit {0}
Unrefused (Err (Refused f)) = ⊥
Unrefused (Err NoMemory) = Unit {0}

-- what is printed of a plan: its listing, with at most one hull
pub record Plays (p : Plan) (out : List ℕ) : Type 0 where
  pub is : out ≡ played p
  pub safe : ListsOneHull p.values out
