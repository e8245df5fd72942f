-- When a text has a fault, told by its lines: what the schedule's lines should be, and where they first are not.
use Rattle.std.specs.Prelude.{◌≡◌, ℕ, zero, suc, ◌^◌, ◌<◌, ◌≤◌, ◌⊎◌, List, [], ◌∷◌, ◌++◌, length, Err, ◌≢◌}
use Rattle.std.specs.List.{flat_map, AllByRecursion}
use Rattle.catalogue.specs.declared.RuleName.{RuleName}
use Rattle.catalogue.specs.Names.{NameFits}
use Rattle.protocol.specs.declared.types.Step.{Step}
use Rattle.schedule_text.specs.declared.types.Fault.{Fault}
use Rattle.schedule_text.specs.declared.types.Fault.TheVariants.{TooLong, WrongRule, WrongValues, WrongStep, Unfinished}
use Rattle.schedule_text.specs.declared.reader.TheConstants.{MAX_BYTES, MAX_VALUES, FIRST_STEP}
use Rattle.schedule_text.specs.Reading.{Plan, read_text}
use Rattle.schedule_text.specs.Writing.{write_rule, write_values, write_step, step_number, ended, write_schedule, PlanFits, NumbersReadBack, SchedulesReadBack}

-- no line end (byte 10) stands in these bytes
abbrev pub Unbroken : List ℕ → Type 0
Unbroken bytes = AllByRecursion (λ b. b ≢ 10) bytes

-- the text is these lines, each with its end, and then the bytes of a line that does not end
pub record Cut (text : List ℕ) (lines : List (List ℕ)) (rest : List ℕ) : Type 0 where
  pub is : text ≡ flat_map ended lines ++ rest
  pub lines_unbroken : AllByRecursion Unbroken lines
  pub rest_unbroken : Unbroken rest

-- 1 to 16 numbers that are written as the line
pub record ValuesOn (line values : List ℕ) : Type 0 where
  pub some : 0 < length values
  pub few : length values ≤ MAX_VALUES
  pub fit : AllByRecursion (λ n. n < 2 ^ 16) values
  pub is : line ≡ write_values values

-- what a line with that number is, counted from 1, if it is right: a rule, then values, then steps
abbrev pub RightLine : ℕ → List ℕ → Type 0
RightLine zero line = ⊥
RightLine (suc zero) line = (r : RuleName) × NameFits r × (line ≡ write_rule r)
RightLine (suc (suc zero)) line = (values : List ℕ) × ValuesOn line values
RightLine (suc (suc (suc k))) line = (s : Step) × (step_number s < 2 ^ 16) × (line ≡ write_step s)

-- these lines are right, of which the first has the number k
abbrev pub AllRightLines : ℕ → List (List ℕ) → Type 0
AllRightLines k [] = Unit {0}
AllRightLines k (line ∷ lines) = RightLine k line × AllRightLines (suc k) lines

-- line k ends and is wrong, and all lines before it are right
pub record WrongAt (text : List ℕ) (k : ℕ) : Type 0 where
  pub before : List (List ℕ)
  pub line : List ℕ
  pub later : List (List ℕ)
  pub rest : List ℕ
  pub cut : Cut text (before ++ line ∷ later) rest
  pub number : k ≡ suc (length before)
  pub right : AllRightLines 1 before
  pub wrong : RightLine k line → ⊥

-- all lines that end are right, and then line k does not end, or it is one of the first three and lacks
pub record StopsAt (text : List ℕ) (k : ℕ) : Type 0 where
  pub lines : List (List ℕ)
  pub rest : List ℕ
  pub cut : Cut text lines rest
  pub number : k ≡ suc (length lines)
  pub right : AllRightLines 1 lines
  pub stops : (0 < length rest) ⊎ (k ≤ FIRST_STEP)

abbrev pub HasFault : List ℕ → Fault → Type 0
HasFault text TooLong = MAX_BYTES < length text
HasFault text WrongRule = (length text ≤ MAX_BYTES) × WrongAt text 1
HasFault text WrongValues = (length text ≤ MAX_BYTES) × WrongAt text 2
HasFault text (WrongStep k) = (length text ≤ MAX_BYTES) × (FIRST_STEP ≤ k) × WrongAt text k
HasFault text (Unfinished k) = (length text ≤ MAX_BYTES) × StopsAt text k

-- ---- the laws of reading
-- the fault that is told is the one that the text has
pub record FaultsTold : Type 0 where
  pub told : (text : List ℕ) (f : Fault) → read_text text ≡ Err f → HasFault text f
  pub had : (text : List ℕ) (f : Fault) → HasFault text f → read_text text ≡ Err f

-- a text is exactly one schedule, or it has exactly one fault, and never both
pub record ReadOneWay : Type 0 where
  pub either : (text : List ℕ) → ((p : Plan) × PlanFits p × (write_schedule p ≡ text)) ⊎ ((f : Fault) × HasFault text f)
  pub one_schedule : (p q : Plan) → PlanFits p → PlanFits q → write_schedule p ≡ write_schedule q → p ≡ q
  pub one_fault : (text : List ℕ) (f g : Fault) → HasFault text f → HasFault text g → f ≡ g
  pub not_both : (p : Plan) (f : Fault) → PlanFits p → HasFault (write_schedule p) f → ⊥

pub record ReadingLaws : Type 0 where
  pub numbers : NumbersReadBack
  pub schedules : SchedulesReadBack
  pub faults : FaultsTold
  pub one_way : ReadOneWay
