-- What a round of OneThirdRule does, without a word on how it is computed.
use Rattle.std.specs.Prelude.{◌≡◌, ℕ, ◌*◌, ◌<◌, ◌≤◌, Some, None}
use Rattle.third_rule.specs.declared.State.{State}
use Rattle.third_rule.specs.Third.{Mailbox, heard, occurs}

-- v is the value that occurs most often, the smallest of these in a tie
pub record MostFrequent (m : Mailbox) (v : ℕ) : Type 0 where
  pub there : 0 < occurs v m
  pub none_more : (x : ℕ) → occurs x m ≤ occurs v m
  pub smallest : (x : ℕ) → occurs x m ≡ occurs v m → v ≤ x

-- v occurs at more than two thirds of n stations
abbrev pub Quorum : ℕ → Mailbox → ℕ → Type 0
Quorum n m v = 2 * n < 3 * occurs v m

-- n stations, the state s before the round, its mailbox m, and the state r after it
pub record Moves (n : ℕ) (s : State) (m : Mailbox) (r : State) : Type 0 where
  -- a station that hears more than two thirds takes the most frequent value, and any other keeps its own
  pub takes : 2 * n < 3 * heard m → MostFrequent m r.value
  pub keeps : 3 * heard m ≤ 2 * n → r.value ≡ s.value
  -- a hull that is shown stays; if there was none, it is the value of a quorum
  pub stays : (h : ℕ) → s.hull ≡ Some h → r.hull ≡ Some h
  pub shows : (v : ℕ) → s.hull ≡ None → Quorum n m v → r.hull ≡ Some v
  pub only_shows : (v : ℕ) → s.hull ≡ None → r.hull ≡ Some v → Quorum n m v
