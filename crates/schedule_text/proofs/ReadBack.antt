-- Reading a written schedule gives it back.
use Rattle.std.proofs.lemmas.Bool.Decides.{nat_tests}
use Rattle.std.proofs.Common.{◌≡◌, ℕ, suc, ◌+◌, ◌%◌, ◌^◌, ◌<◌, ◌≤◌, Bool, true, false, not, ◌&&◌, eqb, List, [], ◌∷◌, ◌++◌, map, length, Some, Ok}
use Rattle.std.proofs.Common.{codes, decimal, sym, refl, ap, ◌∙◌, append_assoc, append-nil, arith}
use lib.ListN.{length-map}
use Rattle.std.specs.List.{flat_map, AllByRecursion}
use Rattle.std.proofs.lemmas.Fmt.{decimal_by_steps}
use Rattle.std.proofs.lemmas.Bool.{cond-true, eq-eqb}
use Rattle.protocol.specs.declared.types.Step.{Step}
use Rattle.protocol.specs.declared.types.Step.TheVariants.{Send, Deliver, Drop, Repeat, Turn, Crash}
use Rattle.catalogue.specs.declared.RuleName.{RuleName}
use Rattle.catalogue.specs.Names.{NameFits, text_of}
use Rattle.catalogue.proofs.Names.{names_read_back}
use Rattle.schedule_text.specs.declared.reader.TheConstants.{MAX_VALUES, FIRST_STEP}
use Rattle.schedule_text.specs.Reading.{pieces, numbers_in, values_line, rule_line, step_with, step_line, Plan, read_text, steps_from, at_least_one}
use Rattle.schedule_text.specs.Writing.{write_rule, write_value, step_letter, step_number, write_step, ended, write_schedule, PlanFits}
use Rattle.schedule_text.specs.Judging.{Unbroken}
use Rattle.schedule_text.proofs.Numbers.{number_back}
use Rattle.schedule_text.proofs.Steps.{prepend, step_more}
use Rattle.schedule_text.proofs.Whole.{assemble, then_steps}

-- a text without the mark
abbrev pub without : ℕ → List ℕ → Bool
without mark [] = true
without mark (b ∷ bs) = not (eqb b mark) && without mark bs

pub unbroken_without : (bs : List ℕ) → Unbroken bs → without 10 bs ≡ true
unbroken_without [] u = refl
unbroken_without (b ∷ bs) u = grind (arith, nat_tests, u.0, unbroken_without bs u.1)

pub without_append : (mark : ℕ) (xs bs : List ℕ) → without mark xs ≡ true → without mark bs ≡ true → without mark (xs ++ bs) ≡ true
without_append mark [] bs p q = q
without_append mark (a ∷ xs) bs p q = grind (arith, without_append mark xs bs, q)

without_digit : (mark b : ℕ) (bs : List ℕ) → mark < 48 → 48 ≤ b → without mark bs ≡ true → without mark (b ∷ bs) ≡ true
without_digit mark b bs low high p = grind (arith, nat_tests)

pub without_decimal : (mark n : ℕ) → mark < 48 → n < 2 ^ 16 → without mark (decimal n) ≡ true
without_decimal mark n low small = decimal_by_steps (λ m ds. without mark ds ≡ true)
    (λ m one. without_digit mark (48 + m) [] low (omega arith) refl)
    (λ m ds more before. without_append mark ds ((48 + m % 10) ∷ []) before (without_digit mark (48 + m % 10) [] low (omega arith) refl))
    n (omega arith)

-- a piece and its mark
pub pieces_line : (mark : ℕ) (line rest : List ℕ) → without mark line ≡ true → pieces mark (line ++ mark ∷ rest) ≡ line ∷ pieces mark rest
unfolding pieces
pieces_line mark [] rest p = cond-true (eqb mark mark) _ _ (eq-eqb mark mark refl)
pieces_line mark (b ∷ line) rest p = grind (arith, nat_tests, pieces_line mark line rest)

pub pieces_all : (mark : ℕ) (line : List ℕ) → without mark line ≡ true → pieces mark line ≡ line ∷ []
unfolding pieces
pieces_all mark [] p = refl
pieces_all mark (b ∷ line) p = grind (arith, nat_tests, pieces_all mark line)

-- ---- the values
words_back : (word : List ℕ) (vs : List ℕ) → without 32 word ≡ true → AllByRecursion (λ n. n < 2 ^ 16) vs →
    pieces 32 (word ++ flat_map write_value vs) ≡ word ∷ map decimal vs
words_back word [] p fit = ap (pieces 32) (append-nil word) ∙ pieces_all 32 word p
words_back word (v ∷ vs) p fit =
    pieces_line 32 word (decimal v ++ flat_map write_value vs) p
    ∙ ap (λ ws. word ∷ ws) (words_back (decimal v) vs (without_decimal 32 v (omega arith) fit.0) fit.1)

numbers_back : (vs : List ℕ) → AllByRecursion (λ n. n < 2 ^ 16) vs → numbers_in (map decimal vs) ≡ Some vs
numbers_back [] fit = refl
numbers_back (v ∷ vs) fit = grind (arith, number_back v fit.0, numbers_back vs fit.1)

pub values_back : (vs : List ℕ) → 0 < length vs → length vs ≤ MAX_VALUES → AllByRecursion (λ n. n < 2 ^ 16) vs →
    Some vs ≡ values_line (codes "values" ++ flat_map write_value vs)
values_back vs some few fit =
    let count : length (map decimal vs) ≡ length vs = length-map vs decimal in
    let words = words_back (codes "values") vs refl fit in
    grind (arith, nat_tests, words, numbers_back vs fit, count)

without_values : (vs : List ℕ) → AllByRecursion (λ n. n < 2 ^ 16) vs → without 10 (flat_map write_value vs) ≡ true
without_values [] fit = refl
without_values (v ∷ vs) fit = without_append 10 (decimal v) (flat_map write_value vs) (without_decimal 10 v (omega arith) fit.0) (without_values vs fit.1)

-- ---- the steps
letter_step : (s : Step) → step_with (step_letter s) (Some (step_number s)) ≡ Some s
letter_step (Send n) = refl
letter_step (Deliver n) = refl
letter_step (Drop n) = refl
letter_step (Repeat n) = refl
letter_step (Turn n) = refl
letter_step (Crash n) = refl

pub step_back : (s : Step) → step_number s < 2 ^ 16 → step_line (write_step s) ≡ Some s
step_back s fit = ap (step_with (step_letter s)) (number_back (step_number s) fit) ∙ letter_step s

letter_unbroken : (s : Step) → eqb (step_letter s) 10 ≡ false
letter_unbroken (Send n) = refl
letter_unbroken (Deliver n) = refl
letter_unbroken (Drop n) = refl
letter_unbroken (Repeat n) = refl
letter_unbroken (Turn n) = refl
letter_unbroken (Crash n) = refl

pub without_step : (s : Step) → step_number s < 2 ^ 16 → without 10 (write_step s) ≡ true
without_step s fit = grind (arith, letter_unbroken s, without_decimal 10 (step_number s) (omega arith) fit)

-- a line's end, and the rest
pub ended_then : (line rest : List ℕ) → ended line ++ rest ≡ line ++ 10 ∷ rest
ended_then line rest = append_assoc line (10 ∷ []) rest

abbrev write_steps : List Step → List ℕ
write_steps ss = flat_map (λ s. ended (write_step s)) ss

steps_back : (k : ℕ) (ss : List Step) → FIRST_STEP ≤ k → AllByRecursion (λ s. step_number s < 2 ^ 16) ss → steps_from k (pieces 10 (write_steps ss)) ≡ Ok ss
unfolding pieces
steps_back k [] late fit = refl
steps_back k (s ∷ ss) late fit =
    let cut : pieces 10 (write_steps (s ∷ ss)) ≡ write_step s ∷ pieces 10 (write_steps ss) =
    ap (pieces 10) (ended_then (write_step s) (write_steps ss)) ∙ pieces_line 10 (write_step s) (write_steps ss) (without_step s fit.0) in
    ap (steps_from k) cut ∙ step_more k late (write_step s) s (write_steps ss) (sym (step_back s fit.0))
    ∙ ap (prepend (s ∷ [])) (steps_back (suc k) ss (omega arith) fit.1)

some_steps : (ss : List Step) → 0 < length ss → at_least_one (Ok ss) ≡ Ok ss
some_steps [] h = absurd (omega arith)
some_steps (s ∷ ss) h = refl

pub rule_back : (r : RuleName) → NameFits r → Some r ≡ rule_line (write_rule r)
rule_back r fit = sym (names_read_back.back r fit)

without_rule : (r : RuleName) → without 10 (write_rule r) ≡ true
without_rule r = unbroken_without (text_of r) (names_read_back.one_line r)

pub schedule_back : (p : Plan) → PlanFits p → read_text (write_schedule p) ≡ Ok p
schedule_back p fits =
    let one = write_rule p.rule in
    let two = codes "values" ++ flat_map write_value p.values in
    let after = write_steps p.steps in
    let cut : pieces 10 (write_schedule p) ≡ one ∷ pieces 10 (ended two ++ after) =
    ap (pieces 10) (ended_then one (ended two ++ after)) ∙ pieces_line 10 one (ended two ++ after) (without_rule p.rule) in
    let again : pieces 10 (ended two ++ after) ≡ two ∷ pieces 10 after =
    ap (pieces 10) (ended_then two after) ∙ pieces_line 10 two after
    (without_append 10 (codes "values") (flat_map write_value p.values) refl (without_values p.values fits.values_fit)) in
    then_steps (write_schedule p) fits.short one (ended two ++ after) cut p.rule (rule_back p.rule fits.rule_fits) two after again p.values
    (values_back p.values fits.some_values fits.few_values fits.values_fit)
    ∙ ap (λ r. assemble p.rule p.values (at_least_one r)) (steps_back FIRST_STEP p.steps (omega arith) fits.steps_fit)
    ∙ ap (assemble p.rule p.values) (some_steps p.steps fits.some_steps)
