-- OneThirdRule as functions.
use Rattle.std.specs.Prelude.{ℕ, ◌*◌, ◌/◌, ◌%◌, ◌^◌, Bool, false, cond, not, ◌&&◌, ◌||◌, List, [], ◌∷◌, length, is_some, Some, None, fold, count_by}
use Rattle.std.specs.Prelude.{Option, ◌==◌, nat_le, nat_lt}
use Rattle.std.specs.Option.{option_or}
use Rattle.rules.specs.Rule.{Behaviour, outside}
use Rattle.third_rule.specs.declared.State.{State}
use Rattle.third_rule.specs.declared.Letter.{Letter}

abbrev pub Mailbox : Type 0
Mailbox = List (Option Letter)

-- ---- counting a mailbox
-- a place of a mailbox has a letter with the value v
abbrev pub says : ℕ → Option Letter → Bool
says v None = false
says v (Some l) = l.value == v

-- the number of letters
abbrev pub heard : Mailbox → ℕ
heard m = count_by is_some m

-- how often a value occurs
abbrev pub occurs : ℕ → Mailbox → ℕ
occurs v m = count_by (says v) m

-- ---- the rule as functions
-- x, which occurs i times, goes before y, which occurs j times: it occurs more often, or as often and is smaller
abbrev pub before : (i x j y : ℕ) → Bool
before i x j y = nat_lt j i || (i == j && nat_lt x y)

-- the better of the best so far and what stands at the next place
abbrev pub better : Mailbox → ℕ → Option Letter → ℕ
better m best None = best
better m best (Some l) = cond (before (occurs l.value m) l.value (occurs best m) best) l.value best

-- the value that occurs most often, the smallest of these in a tie; d if there is no letter
abbrev pub most_frequent : Mailbox → ℕ → ℕ
most_frequent m d = fold (better m) d m

-- the first value of the places that occurs in m at more than two thirds of n stations
abbrev pub quorum_from : ℕ → Mailbox → List (Option Letter) → Option ℕ
quorum_from n m [] = None
quorum_from n m (None ∷ places) = quorum_from n m places
quorum_from n m (Some l ∷ places) = cond (nat_lt (2 * n) (3 * occurs l.value m)) (Some l.value) (quorum_from n m places)

abbrev pub quorum_value : ℕ → Mailbox → Option ℕ
quorum_value n m = quorum_from n m m

abbrev pub next_value : ℕ → ℕ → Mailbox → ℕ
next_value n v m = cond (nat_lt (2 * n) (3 * heard m)) (most_frequent m v) v

-- n stations, a station p, a round k, an opening value v, a state s, a receiver q, a mailbox m, a letter l, a packed number w.
-- Every station writes its value to every station, itself too, in every round. A hull that is shown stays. A packed letter
-- has its value in 16 bits, then 28 zero bits.
abbrev pub third : Behaviour State Letter
third = record {
  most = 16;
  first = λ n p v. record { value = v; hull = None };
  letter = λ n p k s q. cond (outside 16 n p k || nat_le n q) None (Some (record { value = s.value }));
  next = λ n p k s m.
      cond (outside 16 n p k || not (length m == n)) s
      (record { value = next_value n s.value m; hull = option_or s.hull (quorum_value n m) });
  hull = λ s. s.hull;
  pack = λ l. l.value * 2 ^ 28;
  unpack = λ w. cond (w % 2 ^ 28 == 0 && nat_lt (w / 2 ^ 28) (2 ^ 16)) (Some (record { value = w / 2 ^ 28 })) None;
}

-- the letters whose numbers are within their ranges
abbrev pub letter_fits : Letter → Bool
letter_fits l = nat_lt l.value (2 ^ 16)
