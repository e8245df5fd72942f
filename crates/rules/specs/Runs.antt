-- What is known of lockstep runs, for every rule.
use Rattle.std.specs.Prelude.{◌≡◌, ℕ, ◌^◌, ◌<◌, ◌≤◌, Bool, true, T, List, length, Some, slice_index}
use Rattle.rules.specs.Rule.{Behaviour, Ranges, Stable, Heard, next_state, lockstep}

-- whom a run over H asks for a round had reached it
abbrev pub Known : Heard → (ℕ → ℕ) → Type 0
Known H rounds = (p k q : ℕ) → H p k q ≡ true → k ≤ rounds q

pub record RunLaws {S L : Type 0} (R : Behaviour S L) : Type 0 where
  -- the next state depends on whom the station hears below n, on its own state and on the states of those
  pub next_same :
      (n p k : ℕ) (heard heard' : ℕ → Bool) (state state' : ℕ → S) → state p ≡ state' p →
      ((q : ℕ) → q < n → heard q ≡ heard' q) → ((q : ℕ) → q < n → heard' q ≡ true → state q ≡ state' q) →
      next_state R n p k heard state ≡ next_state R n p k heard' state'
  -- a run with more rounds agrees with the first one wherever that is over
  pub grows :
      (values : List ℕ) (H H' : Heard) (rounds : ℕ → ℕ) → Known H rounds → ((p k q : ℕ) → k < rounds p → H' p k q ≡ H p k q) →
      (k p : ℕ) → k ≤ rounds p → lockstep R values H' k p ≡ lockstep R values H k p
  -- every state of a run is within its ranges
  pub fits :
      (values : List ℕ) (letter_fits : L → Bool) (ranges : Ranges R letter_fits) → ((p : ℕ) → p < length values → slice_index values p < 2 ^ 16) →
      (H : Heard) (k p : ℕ) → p < length values → T (ranges.state_fits (lockstep R values H k p))
  -- a hull that is shown in a round is shown in every later one
  pub hull_stays :
      (values : List ℕ) → Stable R → (H : Heard) (p x : ℕ) (k m : ℕ) → k ≤ m → R.hull (lockstep R values H k p) ≡ Some x →
      R.hull (lockstep R values H m p) ≡ Some x
