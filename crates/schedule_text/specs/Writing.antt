-- How a schedule is written, and that reading and writing are inverse.
use Rattle.std.specs.Prelude.{◌≡◌, ℕ, ◌^◌, ◌<◌, ◌≤◌, List, [], ◌∷◌, ◌++◌, length, Some, Ok, codes, decimal}
use Rattle.std.specs.List.{flat_map, AllByRecursion}
use Rattle.catalogue.specs.declared.RuleName.{RuleName}
use Rattle.catalogue.specs.Names.{text_of, NameFits}
use Rattle.protocol.specs.declared.types.Step.{Step}
use Rattle.protocol.specs.declared.types.Step.TheVariants.{Send, Deliver, Drop, Repeat, Turn, Crash}
use Rattle.schedule_text.specs.declared.reader.TheConstants.{MAX_BYTES, MAX_VALUES}
use Rattle.schedule_text.specs.Reading.{Plan, number_in, read_text}

abbrev pub write_rule : RuleName → List ℕ
write_rule rule = codes "rule " ++ text_of rule

abbrev pub write_value : ℕ → List ℕ
write_value n = 32 ∷ decimal n

-- `values` and the numbers, a blank before each
abbrev pub write_values : List ℕ → List ℕ
write_values values = codes "values" ++ flat_map write_value values

-- s, d, x, r, t or c, and the number
abbrev pub step_letter : Step → ℕ
step_letter (Send n) = 115
step_letter (Deliver n) = 100
step_letter (Drop n) = 120
step_letter (Repeat n) = 114
step_letter (Turn n) = 116
step_letter (Crash n) = 99

abbrev pub step_number : Step → ℕ
step_number (Send n) = n
step_number (Deliver n) = n
step_number (Drop n) = n
step_number (Repeat n) = n
step_number (Turn n) = n
step_number (Crash n) = n

abbrev pub write_step : Step → List ℕ
write_step s = step_letter s ∷ 32 ∷ decimal (step_number s)

-- a line with its end
abbrev pub ended : List ℕ → List ℕ
ended line = line ++ (10 ∷ [])

abbrev pub write_schedule : Plan → List ℕ
write_schedule p =
    ended (write_rule p.rule) ++ (ended (write_values p.values) ++ flat_map (λ s. ended (write_step s)) p.steps)

-- what a schedule can hold
pub record PlanFits (p : Plan) : Type 0 where
  pub rule_fits : NameFits p.rule
  pub some_values : 0 < length p.values
  pub few_values : length p.values ≤ MAX_VALUES
  pub values_fit : AllByRecursion (λ n. n < 2 ^ 16) p.values
  pub some_steps : 0 < length p.steps
  pub steps_fit : AllByRecursion (λ s. step_number s < 2 ^ 16) p.steps
  pub short : length (write_schedule p) ≤ MAX_BYTES

-- a number is read from the one text that writes it
pub record NumbersReadBack : Type 0 where
  pub back : (n : ℕ) → n < 2 ^ 16 → number_in (decimal n) ≡ Some n
  pub only : (bs : List ℕ) (n : ℕ) → number_in bs ≡ Some n → (n < 2 ^ 16) × (decimal n ≡ bs)

-- a schedule is read from the one text that writes it
pub record SchedulesReadBack : Type 0 where
  pub back : (p : Plan) → PlanFits p → read_text (write_schedule p) ≡ Ok p
  pub only : (text : List ℕ) (p : Plan) → read_text text ≡ Ok p → PlanFits p × (write_schedule p ≡ text)
