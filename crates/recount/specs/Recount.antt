-- What one lockstep round and recount answer and leave.
use Rattle.std.specs.Prelude.{◌≡◌, ℕ, suc, ◌+◌, ◌<◌, min, Bool, List, [], ◌∷◌, ◌++◌, length, Option, Result, nat_le, nat_lt, slice_index_or}
use Rattle.lists.specs.Lists.{written}
use Rattle.stations.specs.declared.StationSet.{StationSet}
use Rattle.rules.specs.declared.TheConstants.{LAST_ROUND}
use Rattle.rules.specs.Rule.{Behaviour, Heard, letter_heard, next_state, lockstep}
use Rattle.frames.specs.Book.{book_heard, hears}
use Rattle.protocol.specs.declared.refusal.Refusal.{Refusal}
use Rattle.protocol.specs.declared.refusal.Refusal.TheVariants.{BufferMismatch, LastRound}
use Rattle.protocol.specs.Refusals.{first_refusal, attempt}
use Rattle.protocol.specs.Tests.{count_tests}

-- why a run is refused, in checking order: by the rule's most stations and their number, by the shortest buffer, and where
-- the round is too late
abbrev pub run_refusal : (most n shortest : ℕ) (late : Bool) → Option Refusal
run_refusal most n shortest late =
    first_refusal (count_tests most n ++ (nat_lt shortest n, BufferMismatch) ∷ (late, LastRound) ∷ [])

-- ---- one round
module _ {S L : Type 0} (R : Behaviour S L) (n : ℕ) where
  -- the state in cell p; the default stands past the end, where nothing is read
  abbrev pub state_in : List S → ℕ → S
  state_in states p = slice_index_or states p (R.first n p 0)

  -- what p hears of q in round k, from the heard sets and the cells of all stations
  abbrev pub letter_in : ℕ → List StationSet → List S → (p q : ℕ) → Option L
  letter_in k sets states p = letter_heard R n p k (hears sets p) (state_in states)

  -- p's state after round k, from the heard sets and the cells of all stations
  abbrev pub state_after : ℕ → List StationSet → List S → ℕ → S
  state_after k sets states p = next_state R n p k (hears sets p) (state_in states)

  -- what a round answers, and what it leaves in the cells for the states after it: the first n are written
  abbrev pub round_call : ℕ → List StationSet → List S → List S → Result ℕ Refusal × List S
  round_call k sets states cells =
      attempt cells (run_refusal R.most n (min (length states) (length cells)) (nat_le LAST_ROUND k)) (k + 1)
      (written n (state_after k sets states) cells)

  -- from the lockstep run at round k to the run at the round after it
  unfoldable pub Advances : ℕ → List StationSet → List S → List S → List S → Type 0
  Advances k sets states before after =
      (values : List ℕ) (H : Heard) → length values ≡ n →
      ((p q : ℕ) → p < n → q < n → hears sets p q ≡ H p k q) →
      ((p : ℕ) → p < n → state_in states p ≡ lockstep R values H k p) →
      after ≡ written n (lockstep R values H (suc k)) before

-- ---- recount
-- cells whose first n have the lockstep run at the round, with the book's senders, and whose rest is as it was
abbrev pub recounted : {S L : Type 0} → Behaviour S L → List ℕ → List ℕ → ℕ → List S → List S
recounted R values book round cells = written (length values) (lockstep R values (book_heard book) round) cells

-- the two state buffers and the letter row
pub record RecountBuffers (S L : Type 0) : Type 0 where
  pub states : List S
  pub scratch : List S
  pub row : List L

-- the length of the shortest of them
abbrev pub shortest : {S L : Type 0} → RecountBuffers S L → ℕ
shortest b = min (min (length b.states) (length b.scratch)) (length b.row)

-- what recount answers, and what it leaves in the first buffer
abbrev pub recount_call : {S L : Type 0} → Behaviour S L → List ℕ → List ℕ → ℕ → RecountBuffers S L → Result ℕ Refusal × List S
recount_call R values book round b =
    attempt b.states (run_refusal R.most (length values) (shortest b) (nat_lt LAST_ROUND round)) round
    (recounted R values book round b.states)
