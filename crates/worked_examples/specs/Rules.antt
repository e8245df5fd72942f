-- Worked examples of the two rules.
use Rattle.std.specs.Prelude.{◌≡◌, ℕ, ◌+◌, ◌*◌, ◌^◌, true, false, cond, not, ◌==◌, List, [], ◌∷◌, length, Some, None, Option}
use Rattle.rules.specs.Rule.{Heard, lockstep}
use Rattle.third_rule.specs.declared.State.{State as ThirdState}
use Rattle.third_rule.specs.declared.Letter.{Letter as ThirdLetter}
use Rattle.third_rule.specs.Third.{third, heard as third_heard}
use Rattle.last_rule.specs.declared.State.{State as LastState}
use Rattle.last_rule.specs.declared.Letter.{Letter as LastLetter}
use Rattle.last_rule.specs.Last.{last, heard as last_heard}

-- ---- OneThirdRule: station 0 in round 0, with value 9 and no hull
abbrev pub voting : ℕ → Option ℕ → ThirdState
voting v h = record { value = v; hull = h }

abbrev pub value : ℕ → Option ThirdLetter
value v = Some (record { value = v })

abbrev pub third_hears : ℕ → List (Option ThirdLetter) → ThirdState
third_hears n m = third.next n 0 0 (voting 9 None) m

-- what the four rounds give: a tie of two, two of three that agree, three that agree, and two of three that are heard
abbrev pub third_states : List ThirdState
third_states = voting 7 None ∷ voting 7 None ∷ voting 7 (Some 7) ∷ voting 9 None ∷ []

pub record ThirdExamples : Type 0 where
  pub rounds :
      third_hears 2 (value 9 ∷ value 7 ∷ []) ∷ third_hears 3 (value 7 ∷ value 7 ∷ value 9 ∷ []) ∷
      third_hears 3 (value 7 ∷ value 7 ∷ value 7 ∷ []) ∷ third_hears 3 (value 7 ∷ value 7 ∷ None ∷ []) ∷ [] ≡ third_states
  -- whatever two letters they are, and whatever the state
  pub any_two_of_three : (s : ThirdState) (m : List (Option ThirdLetter)) → length m ≡ 3 → third_heard m ≡ 2 → third.next 3 0 0 s m ≡ s

-- ---- LastVoting: station 0, the coordinator of round 0, with value 5
abbrev pub first_state : LastState
first_state = last.first 4 0 5

abbrev pub stamped_letter : ℕ → ℕ → Option LastLetter
stamped_letter v x = Some (record { value = v; stamp = x })

abbrev pub last_hears : List (Option LastLetter) → LastState
last_hears m = last.next 4 0 0 first_state m

-- it commits to a value
abbrev pub votes_for : ℕ → LastState
votes_for v = record { value = 5; stamp = 0; vote = v; committed = true; ready = false; hull = None }

-- what the three rounds give: two of four heard, three of four heard, and the latest stamp from two senders
abbrev pub last_states : List LastState
last_states = first_state ∷ votes_for 5 ∷ votes_for 200 ∷ []

-- what the two numbers unpack to: the last stamp, and one more
abbrev pub unpacked : List (Option LastLetter)
unpacked = stamped_letter 300 1024 ∷ None ∷ []

pub record LastExamples : Type 0 where
  pub rounds :
      last_hears (stamped_letter 5 0 ∷ stamped_letter 6 0 ∷ None ∷ None ∷ []) ∷ last_hears
      (stamped_letter 5 0 ∷ stamped_letter 6 0 ∷ None ∷ stamped_letter 7 0 ∷ []) ∷
      last_hears (stamped_letter 300 1 ∷ stamped_letter 200 2 ∷ stamped_letter 100 2 ∷ None ∷ []) ∷ [] ≡ last_states
  -- whatever two or three letters they are, and whatever the state
  pub any_two_of_four : (s : LastState) (m : List (Option LastLetter)) → length m ≡ 4 → last_heard m ≡ 2 → last.next 4 0 0 s m ≡ s
  pub any_three_of_four : (s : LastState) (m : List (Option LastLetter)) → length m ≡ 4 → last_heard m ≡ 3 → (last.next 4 0 0 s m).committed ≡ true
  pub stamps : last.unpack (300 * 2 ^ 28 + 1024 * 2 ^ 17) ∷ last.unpack (300 * 2 ^ 28 + 1025 * 2 ^ 17) ∷ [] ≡ unpacked

-- ---- LastVoting: lockstep runs of three stations that open with 5, 7 and 9
abbrev pub opening_values : List ℕ
opening_values = 5 ∷ 7 ∷ 9 ∷ []

-- all hear all
abbrev pub all_heard : Heard
all_heard p k q = true

-- all hear all in round 0, and in round 1 station 1 alone hears the others; from then on nobody hears station 0
abbrev pub one_adopts : Heard
one_adopts p k q = cond (k == 0) true (cond (k == 1) (p == 1) (not (q == 0)))

-- all hear all in round 0, and from then on nobody hears station 0
abbrev pub none_adopts : Heard
none_adopts p k q = cond (k == 0) true (not (q == 0))

abbrev pub shows : Heard → (rounds station : ℕ) → Option ℕ
shows H k p = last.hull (lockstep last opening_values H k p)

pub record LastRuns : Type 0 where
  -- a phase that nothing disturbs ends with its coordinator's vote, the lowest sender's of equal stamps
  pub first_phase : shows all_heard 3 2 ∷ shows all_heard 4 2 ∷ [] ≡ None ∷ Some 5 ∷ []
  -- of a phase that shows no hull one station took the vote: the next coordinator finds that by its stamp
  pub stamp_found : shows one_adopts 4 1 ∷ shows one_adopts 8 2 ∷ [] ≡ None ∷ Some 5 ∷ []
  -- nobody took it: the next coordinator hears 7 and 9, and votes for the lowest sender's
  pub free_again : shows none_adopts 4 1 ∷ shows none_adopts 8 2 ∷ [] ≡ None ∷ Some 7 ∷ []
