-- LastVoting as functions. Four rounds are a phase, and each phase has a coordinator: it collects the stations' values and
-- commits to one, the stations adopt that, they acknowledge it, and they decide.
use Rattle.std.specs.Prelude.{◌≡◌, ℕ, suc, ◌+◌, ◌*◌, ◌/◌, ◌%◌, ◌^◌, min, Bool, true, false, cond, not, ◌&&◌, ◌||◌, List, [], ◌∷◌, length, is_some}
use Rattle.std.specs.Prelude.{Some, None, count_by, Option, ◌==◌, nat_le, nat_lt, slice_index_or}
use Rattle.rules.specs.Rule.{Behaviour, outside}
use Rattle.last_rule.specs.declared.TheConstants.{LAST_STAMP}
use Rattle.last_rule.specs.declared.State.{State}
use Rattle.last_rule.specs.declared.Letter.{Letter}

-- ---- rounds
abbrev pub phase : (round : ℕ) → ℕ
phase k = k / 4

abbrev pub coordinator : (n round : ℕ) → ℕ
coordinator n k = phase k % n

-- a term for each of the four rounds of a phase
abbrev pub by_round : {A : Type 0} → (round : ℕ) → A → A → A → A → A
by_round k a b c d = cond (k % 4 == 0) a (cond (k % 4 == 1) b (cond (k % 4 == 2) c d))

-- ---- stamps
-- what the number in a stamp's cell counts as
abbrev pub stamped : ℕ → ℕ
stamped x = min x LAST_STAMP

-- what the letter in a cell counts as
abbrev pub counted : Letter → Letter
counted l = record { value = l.value; stamp = stamped l.stamp }

-- ---- mailboxes
abbrev pub Mailbox : Type 0
Mailbox = List (Option Letter)

-- the letter l of sender q is there
abbrev pub At : Mailbox → (q : ℕ) → (l : Letter) → Type 0
At m q l = slice_index_or m q None ≡ Some l

-- how many letters there are
abbrev pub heard : Mailbox → ℕ
heard m = count_by is_some m

-- a letter with its sender
abbrev pub Signed : Type 0
Signed = ℕ × Letter

-- of the best so far and the next, the one with the larger stamp; the former in a tie
abbrev pub later : Option Signed → Signed → Signed
later None next = next
later (Some best) next = cond (nat_lt (stamped best.1.stamp) (stamped next.1.stamp)) next best

abbrev pub latest_from : (sender : ℕ) → (best : Option Signed) → Mailbox → Option Signed
latest_from q best [] = best
latest_from q best (None ∷ m) = latest_from (suc q) best m
latest_from q best (Some l ∷ m) = latest_from (suc q) (Some (later best (q, l))) m

-- the letter with the largest stamp, the lowest sender's in a tie
abbrev pub latest : Mailbox → Option Signed
latest m = latest_from 0 None m

-- ---- what a round makes of a state
abbrev pub committed_to : (vote : ℕ) → State → State
committed_to v s = record s { vote = v; committed = true }

abbrev pub adopting : (value stamp : ℕ) → State → State
adopting v x s = record s { value = v; stamp = x }

abbrev pub readied : State → State
readied s = record s { ready = true }

abbrev pub showing : Option ℕ → State → State
showing h s = record s { hull = h }

abbrev pub unmarked : State → State
unmarked s = record s { committed = false; ready = false }

-- ---- the next states of the four rounds
-- a coordinator commits to the value that it chose
abbrev pub commit : Option Signed → State → State
commit None s = s
commit (Some chosen) s = committed_to chosen.1.value s

-- first round: a coordinator that hears more than half commits to the value of the latest letter
abbrev pub collect : (n : ℕ) → Mailbox → State → State
collect n m s = cond (nat_lt n (2 * heard m)) (commit (latest m) s) s

-- second round: who hears the coordinator takes its vote, and the phase's stamp
abbrev pub adopt : (phase : ℕ) → Option Letter → State → State
adopt f None s = s
adopt f (Some l) s = adopting l.value (f + 1) s

-- third round: a coordinator to whom more than half acknowledge its vote is ready
abbrev pub acknowledge : (n : ℕ) → Mailbox → State → State
acknowledge n m s = cond (nat_lt n (2 * heard m)) (readied s) s

-- a hull that is shown stays; else the coordinator's vote, if it is heard, is shown
abbrev pub hull_after : Option ℕ → Option Letter → Option ℕ
hull_after (Some h) o = Some h
hull_after None None = None
hull_after None (Some l) = Some l.value

-- fourth round: who hears the coordinator shows its vote, if no hull is shown; the coordinator clears its marks
abbrev pub decide : (coordinates : Bool) → Option Letter → State → State
decide coordinates o s =
    let after : State = showing (hull_after s.hull o) s in
    cond coordinates (unmarked after) after

-- ---- the letters of the four rounds
abbrev pub writes : (value stamp : ℕ) → Option Letter
writes v x = Some (record { value = v; stamp = x })

-- first round: every station, to the coordinator: its value and stamp
abbrev pub report : (to_coordinator : Bool) → State → Option Letter
report to s = cond to (writes s.value (stamped s.stamp)) None

-- second round: a committed coordinator, to every station: its vote
abbrev pub propose : (coordinates : Bool) → State → Option Letter
propose mine s = cond (mine && s.committed) (writes s.vote 0) None

-- third round: who adopted the phase's vote, to the coordinator: only that
abbrev pub confirm : (phase : ℕ) → (to_coordinator : Bool) → State → Option Letter
confirm f to s = cond (to && stamped s.stamp == f + 1) (writes 0 0) None

-- fourth round: a ready coordinator, to every station: its vote
abbrev pub announce : (coordinates : Bool) → State → Option Letter
announce mine s = cond (mine && s.ready) (writes s.vote 0) None

-- ---- the packed number: 16 bits of value, 11 of stamp, 17 zero bits
abbrev pub pack_letter : Letter → ℕ
pack_letter l = l.value * 2 ^ 28 + stamped l.stamp * 2 ^ 17

abbrev pub unpack_letter : ℕ → Option Letter
unpack_letter w =
    cond (w % 2 ^ 17 == 0 && nat_lt (w / 2 ^ 28) (2 ^ 16) && nat_le ((w / 2 ^ 17) % 2 ^ 11) LAST_STAMP)
    (writes (w / 2 ^ 28) ((w / 2 ^ 17) % 2 ^ 11)) None

-- ---- the rule
-- n stations, a station p, a round k, an opening value v, a state s, a receiver q, a mailbox m; c is the round's coordinator
abbrev pub last : Behaviour State Letter
last = record {
  most = 16;
  first = λ n p v. record { value = v; stamp = 0; vote = 0; committed = false; ready = false; hull = None };
  letter = λ n p k s q.
      let c : ℕ = coordinator n k in
      cond (outside 16 n p k || nat_le n q) None
      (by_round k (report (q == c) s) (propose (p == c) s) (confirm (phase k) (q == c) s) (announce (p == c) s));
  next = λ n p k s m.
      let c : ℕ = coordinator n k in
      cond (outside 16 n p k || not (length m == n)) s
      (by_round k
      (cond (p == c) (collect n m s) s)
      (adopt (phase k) (slice_index_or m c None) s)
      (cond (p == c) (acknowledge n m s) s)
      (decide (p == c) (slice_index_or m c None) s));
  hull = λ s. s.hull;
  pack = pack_letter;
  unpack = unpack_letter;
}

-- the letters whose numbers are within their ranges
abbrev pub letter_fits : Letter → Bool
letter_fits l = nat_lt l.value (2 ^ 16) && nat_le l.stamp LAST_STAMP
