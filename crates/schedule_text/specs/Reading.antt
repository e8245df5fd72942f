-- What the text of a schedule means: the schedule that it writes, or its one fault. A text is a list of bytes.
use Rattle.std.specs.Prelude.{◌≡◌, ℕ, suc, ◌+◌, ◌-◌, ◌*◌, ◌^◌, ◌≤◌, Bool, cond, ◌&&◌, ◌||◌, List, [], ◌∷◌, length, take, drop, is_some}
use Rattle.std.specs.Prelude.{Some, None, Ok, Err, vec_items, codes, Option, Result, Vec, ◌==◌, nat_le, nat_lt, slice_index, slice_index_or}
use Rattle.std.specs.Char.{is_ascii_digit}
use Rattle.std.specs.declared.alloc.Global.{Global}
use Rattle.std.specs.Str.{bytes_eq}
use Rattle.catalogue.specs.declared.RuleName.{RuleName}
use Rattle.catalogue.specs.Names.{name_in}
use Rattle.protocol.specs.declared.types.Step.{Step}
use Rattle.protocol.specs.declared.types.Step.TheVariants.{Send, Deliver, Drop, Repeat, Turn, Crash}
use Rattle.schedule_text.specs.declared.types.Fault.{Fault}
use Rattle.schedule_text.specs.declared.types.Fault.TheVariants.{TooLong, WrongRule, WrongValues, WrongStep, Unfinished}
use Rattle.schedule_text.specs.declared.halt.Halt.{Halt}
use Rattle.schedule_text.specs.declared.halt.Halt.TheVariants.{Refused, NoMemory}
use Rattle.schedule_text.specs.declared.reader.TheConstants.{MAX_BYTES, MAX_VALUES, FIRST_STEP}
use Rattle.schedule_text.specs.declared.types.Schedule.{Schedule}

-- ---- pieces of a text
abbrev pub onto_first : ℕ → List (List ℕ) → List (List ℕ)
onto_first b [] = (b ∷ []) ∷ []
onto_first b (p ∷ ps) = (b ∷ p) ∷ ps

-- the pieces of a text between the marks: one more than it has marks
unfoldable pub pieces : ℕ → List ℕ → List (List ℕ)
pieces mark [] = [] ∷ []
pieces mark (b ∷ bs) = cond (b == mark) ([] ∷ pieces mark bs) (onto_first b (pieces mark bs))

abbrev pub all_but_last : List (List ℕ) → List (List ℕ)
all_but_last [] = []
all_but_last (p ∷ []) = []
all_but_last (p ∷ q ∷ ps) = p ∷ all_but_last (q ∷ ps)

abbrev pub last_of : List (List ℕ) → List ℕ
last_of [] = []
last_of (p ∷ []) = p
last_of (p ∷ q ∷ ps) = last_of (q ∷ ps)

-- a line ends in byte 10: the finished lines, without their ends, and the bytes after the last end
abbrev pub finished : List ℕ → List (List ℕ)
finished text = all_but_last (pieces 10 text)

abbrev pub unfinished : List ℕ → List ℕ
unfinished text = last_of (pieces 10 text)

-- ---- numbers
-- the number that the bytes write after digits that wrote v: none at a byte that is no digit, or above 65,535
abbrev pub digits_after : ℕ → List ℕ → Option ℕ
digits_after v [] = Some v
digits_after v (b ∷ bs) =
    cond (is_ascii_digit b && nat_lt (v * 10 + (b - 48)) (2 ^ 16)) (digits_after (v * 10 + (b - 48)) bs) None

-- a number is not empty, and has no 0 before other digits
abbrev pub number_in : List ℕ → Option ℕ
number_in bs = cond (length bs == 0 || (slice_index bs 0 == 48 && nat_lt 1 (length bs))) None (digits_after 0 bs)

-- ---- lines
-- `rule`, one blank, and a rule's name
abbrev pub rule_line : List ℕ → Option RuleName
rule_line line = cond (bytes_eq (take 5 line) (codes "rule ")) (name_in (drop 5 line)) None

abbrev pub with_first : Option ℕ → Option (List ℕ) → Option (List ℕ)
with_first None o = None
with_first (Some n) None = None
with_first (Some n) (Some ns) = Some (n ∷ ns)

-- the numbers that the words write, or none if one of them writes none
abbrev pub numbers_in : List (List ℕ) → Option (List ℕ)
numbers_in [] = Some []
numbers_in (word ∷ words) = with_first (number_in word) (numbers_in words)

abbrev pub values_in : List (List ℕ) → Option (List ℕ)
values_in [] = None
values_in (word ∷ words) =
    cond (bytes_eq word (codes "values") && (nat_lt 0 (length words) && nat_le (length words) MAX_VALUES)) (numbers_in words) None

-- `values` and 1 to 16 numbers, with one blank (byte 32) between each two
abbrev pub values_line : List ℕ → Option (List ℕ)
values_line line = values_in (pieces 32 line)

-- the step of a letter: s, d, x, r, t or c
abbrev pub step_of : ℕ → ℕ → Option Step
step_of letter n =
    cond (letter == 115) (Some (Send n))
    (cond (letter == 100) (Some (Deliver n))
    (cond (letter == 120) (Some (Drop n))
    (cond (letter == 114) (Some (Repeat n))
    (cond (letter == 116) (Some (Turn n))
    (cond (letter == 99) (Some (Crash n)) None)))))

abbrev pub step_with : ℕ → Option ℕ → Option Step
step_with letter None = None
step_with letter (Some n) = step_of letter n

-- one letter, a blank and a number
abbrev pub step_line : List ℕ → Option Step
step_line [] = None
step_line (letter ∷ []) = None
step_line (letter ∷ b ∷ bs) = cond (b == 32) (step_with letter (number_in bs)) None

-- ---- the text
-- a schedule, as values
pub record Plan : Type 0 where
  pub rule : RuleName
  pub values : List ℕ
  pub steps : List Step

-- whether the line with this number is right, and its fault if it is not
abbrev pub is_right : ℕ → List ℕ → Bool
is_right k line = cond (k == 1) (is_some (rule_line line)) (cond (k == 2) (is_some (values_line line)) (is_some (step_line line)))

abbrev pub fault_at : ℕ → Fault
fault_at k = cond (k == 1) WrongRule (cond (k == 2) WrongValues (WrongStep k))

-- the fault of the first wrong line, where the first of the lines has the number k
abbrev pub first_wrong : ℕ → List (List ℕ) → Option Fault
first_wrong k [] = None
first_wrong k (line ∷ lines) = cond (is_right k line) (first_wrong (suc k) lines) (Some (fault_at k))

-- the steps of lines that are right
abbrev pub and_step : Option Step → List Step → List Step
and_step None steps = steps
and_step (Some s) steps = s ∷ steps

abbrev pub steps_in : List (List ℕ) → List Step
steps_in [] = []
steps_in (line ∷ lines) = and_step (step_line line) (steps_in lines)

-- a rule, values and steps make a schedule
abbrev pub planned : Option RuleName → Option (List ℕ) → List Step → Result Plan Fault
planned None values steps = Err WrongRule
planned (Some rule) None steps = Err WrongValues
planned (Some rule) (Some values) steps = Ok (record { rule = rule; values = values; steps = steps })

-- the schedule of lines of which the later ones are steps
abbrev pub plan_in : List (List ℕ) → Result Plan Fault
plan_in lines = planned (rule_line (slice_index_or lines 0 [])) (values_line (slice_index_or lines 1 [])) (steps_in (drop 2 lines))

abbrev pub unless : {A : Type 0} → Option Fault → Result A Fault → Result A Fault
unless None r = r
unless (Some f) r = Err f

-- The first wrong line counts. After right lines, bytes without a line end are an unfinished line, and fewer than three lines
-- lack the next one.
unfoldable pub read_lines : List (List ℕ) → List ℕ → Result Plan Fault
read_lines lines end =
    unless (first_wrong 1 lines) (cond (length end == 0 && nat_le FIRST_STEP (length lines)) (plan_in lines) (Err (Unfinished (length lines + 1))))

unfoldable pub read_text : List ℕ → Result Plan Fault
read_text text = cond (nat_lt MAX_BYTES (length text)) (Err TooLong) (read_lines (finished text) (unfinished text))

-- ---- what the code answers
abbrev pub plan : Schedule → Plan
plan s = record { rule = s.rule; values = vec_items s.values; steps = vec_items s.steps }

-- only of a text that is not too long is told that there was no memory; of its lines nothing is said then
abbrev pub Reads : List ℕ → Result Schedule (Halt Fault) → Type 0
Reads text (Ok s) = read_text text ≡ Ok (plan s)
Reads text (Err (Refused f)) = read_text text ≡ Err f
Reads text (Err NoMemory) = length text ≤ MAX_BYTES

-- the text begins with a line that writes the step s, and goes on after the line
pub record BeginsWithStep (text : List ℕ) (s : Step) (later : List ℕ) : Type 0 where
  pub line : List ℕ
  pub cut : pieces 10 text ≡ line ∷ pieces 10 later
  pub is : Some s ≡ step_line line

-- if its first line ends, it writes no step
abbrev pub NoStep : List ℕ → Type 0
NoStep text = (line later : List ℕ) → pieces 10 text ≡ line ∷ pieces 10 later → None ≡ step_line line

-- what is read of the pieces of a text that begins with line k, which is a step
abbrev pub steps_from : ℕ → List (List ℕ) → Result (List Step) Fault
steps_from k ps =
    unless (first_wrong k (all_but_last ps))
    (cond (length (last_of ps) == 0) (Ok (steps_in (all_but_last ps))) (Err (Unfinished (length (all_but_last ps) + k))))

abbrev pub at_least_one : Result (List Step) Fault → Result (List Step) Fault
at_least_one (Err f) = Err f
at_least_one (Ok []) = Err (Unfinished FIRST_STEP)
at_least_one (Ok (s ∷ ss)) = Ok (s ∷ ss)

abbrev pub ReadsSteps : List ℕ → Result (Vec Step Global) (Halt Fault) → Type 0
ReadsSteps text (Ok steps) = at_least_one (steps_from FIRST_STEP (pieces 10 text)) ≡ Ok (vec_items steps)
ReadsSteps text (Err (Refused f)) = at_least_one (steps_from FIRST_STEP (pieces 10 text)) ≡ Err f
ReadsSteps text (Err NoMemory) = Unit {0}
