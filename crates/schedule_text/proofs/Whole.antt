-- The whole text, from its first line on.
use Rattle.std.proofs.lemmas.Bool.Decides.{nat_tests}
use Rattle.std.proofs.Common.{◌≡◌, ℕ, suc, ◌+◌, ◌<◌, ◌≤◌, Bool, true, false, cond, ◌&&◌, eqb, leb, List, [], ◌∷◌, length, is_some, Some, None, Ok}
use Rattle.std.proofs.Common.{Err, Option, Result, sym, refl, ap, ◌∙◌, arith}
use Rattle.protocol.specs.declared.types.Step.{Step}
use Rattle.schedule_text.specs.declared.types.Fault.{Fault}
use Rattle.schedule_text.specs.declared.types.Fault.TheVariants.{TooLong, WrongRule, WrongValues, WrongStep, Unfinished}
use Rattle.schedule_text.specs.declared.halt.Halt.{Halt}
use Rattle.schedule_text.specs.declared.halt.Halt.TheVariants.{Refused, NoMemory}
use Rattle.catalogue.specs.declared.RuleName.{RuleName}
use Rattle.schedule_text.specs.declared.reader.TheConstants.{MAX_BYTES, FIRST_STEP}
use Rattle.schedule_text.specs.Reading.{pieces, all_but_last, last_of, rule_line, values_line, step_line, Plan, first_wrong, and_step, steps_in}
use Rattle.schedule_text.specs.Reading.{unless, read_lines, read_text, steps_from, at_least_one, ReadsSteps, Reads}
use Rattle.schedule_text.proofs.Steps.{some_piece}

pub too_long : (text : List ℕ) → MAX_BYTES < length text → read_text text ≡ Err TooLong
unfolding read_text
too_long text l = grind (arith, nat_tests)

abbrev pub by_pieces : List (List ℕ) → Result Plan Fault
by_pieces ps = read_lines (all_but_last ps) (last_of ps)

pub by_pieces_is : (text : List ℕ) → length text ≤ MAX_BYTES → read_text text ≡ by_pieces (pieces 10 text)
unfolding read_text
by_pieces_is text l = grind (arith, nat_tests)

no_first : (t : List ℕ) → by_pieces (t ∷ []) ≡ Err (Unfinished 1)
unfolding read_lines
no_first t = grind arith

wrong_first : (one p : List ℕ) (ps : List (List ℕ)) → None ≡ rule_line one → by_pieces (one ∷ p ∷ ps) ≡ Err WrongRule
unfolding read_lines
wrong_first one p ps e = grind (arith, e)

no_second : (rule : RuleName) (one t : List ℕ) → Some rule ≡ rule_line one → by_pieces (one ∷ t ∷ []) ≡ Err (Unfinished 2)
unfolding read_lines
no_second rule one t e = grind (arith, e)

wrong_second : (rule : RuleName) (one two p : List ℕ) (ps : List (List ℕ)) → Some rule ≡ rule_line one → None ≡ values_line two →
    by_pieces (one ∷ two ∷ p ∷ ps) ≡ Err WrongValues
unfolding read_lines
wrong_second rule one two p ps e f = grind (arith, e, f)

-- the schedule of a rule, values and steps that were read
abbrev pub assemble : RuleName → List ℕ → Result (List Step) Fault → Result Plan Fault
assemble rule values (Ok steps) = Ok (record { rule = rule; values = values; steps = steps })
assemble rule values (Err f) = Err f

module _ (rule : RuleName) (values : List ℕ) where
  first_step_decides : (o : Option Step) (w : Option Fault) (t : Bool) (m : ℕ) (ss : List Step) →
      unless (cond (is_some o) w (Some (WrongStep FIRST_STEP)))
      (cond (t && leb FIRST_STEP (suc (suc (suc m)))) (Ok (record { rule = rule; values = values; steps = and_step o ss }))
      (Err (Unfinished (suc (suc (suc m)) + 1)))) ≡ assemble rule values
      (at_least_one (unless (cond (is_some o) w (Some (WrongStep FIRST_STEP))) (cond t (Ok (and_step o ss)) (Err (Unfinished (suc m + FIRST_STEP))))))
  first_step_decides None w t m ss = refl
  first_step_decides (Some s) (Some f) t m ss = refl
  first_step_decides (Some s) None true m ss = grind (arith, nat_tests)
  first_step_decides (Some s) None false m ss = grind (arith, nat_tests)

  steps_decide_lines : (ls : List (List ℕ)) (t : Bool) →
      unless (first_wrong FIRST_STEP ls) (cond (t && leb FIRST_STEP (suc (suc (length ls))))
      (Ok (record { rule = rule; values = values; steps = steps_in ls }))
      (Err (Unfinished (suc (suc (length ls)) + 1)))) ≡ assemble rule values
      (at_least_one (unless (first_wrong FIRST_STEP ls) (cond t (Ok (steps_in ls)) (Err (Unfinished (length ls + FIRST_STEP))))))
  steps_decide_lines [] true = refl
  steps_decide_lines [] false = refl
  steps_decide_lines (l ∷ ls) t = first_step_decides (step_line l) (first_wrong 4 ls) t (length ls) (steps_in ls)

  right_lines_assemble : (one two p : List ℕ) (ps : List (List ℕ)) → Some rule ≡ rule_line one → Some values ≡ values_line two →
      by_pieces (one ∷ two ∷ p ∷ ps) ≡ assemble rule values (at_least_one (steps_from FIRST_STEP (p ∷ ps)))
  unfolding read_lines
  right_lines_assemble one two p ps e f = rw (← e, ← f) (steps_decide_lines (all_but_last (p ∷ ps)) (eqb (length (last_of (p ∷ ps))) 0))

-- the code's way through the text
module _ (text : List ℕ) (short : length text ≤ MAX_BYTES) where
  pub lacks_first : pieces 10 text ≡ text ∷ [] → read_text text ≡ Err (Unfinished 1)
  lacks_first cut = by_pieces_is text short ∙ ap by_pieces cut ∙ no_first text

  module _ (one rest : List ℕ) (cut : pieces 10 text ≡ one ∷ pieces 10 rest) where
    pub first_is_wrong : None ≡ rule_line one → read_text text ≡ Err WrongRule
    first_is_wrong e =
        let some = some_piece 10 rest in
        by_pieces_is text short ∙ ap by_pieces (cut ∙ ap (λ ps. one ∷ ps) some.2) ∙ wrong_first one some.0 some.1 e

    module _ (rule : RuleName) (ruled : Some rule ≡ rule_line one) where
      pub lacks_second : pieces 10 rest ≡ rest ∷ [] → read_text text ≡ Err (Unfinished 2)
      lacks_second again = by_pieces_is text short ∙ ap by_pieces (cut ∙ ap (λ ps. one ∷ ps) again) ∙ no_second rule one rest ruled

      module _ (two after : List ℕ) (again : pieces 10 rest ≡ two ∷ pieces 10 after) where
        first_two_lines : pieces 10 text ≡ one ∷ two ∷ (some_piece 10 after).0 ∷ (some_piece 10 after).1
        first_two_lines = cut ∙ ap (λ ps. one ∷ ps) (again ∙ ap (λ ps. two ∷ ps) (some_piece 10 after).2)

        pub second_is_wrong : None ≡ values_line two → read_text text ≡ Err WrongValues
        second_is_wrong e = by_pieces_is text short ∙ ap by_pieces first_two_lines
            ∙ wrong_second rule one two (some_piece 10 after).0 (some_piece 10 after).1 ruled e

        pub then_steps : (values : List ℕ) → Some values ≡ values_line two →
            read_text text ≡ assemble rule values (at_least_one (steps_from FIRST_STEP (pieces 10 after)))
        then_steps values e =
            by_pieces_is text short ∙ ap by_pieces first_two_lines
            ∙ right_lines_assemble rule values one two (some_piece 10 after).0 (some_piece 10 after).1 ruled e
            ∙ ap (λ ps. assemble rule values (at_least_one (steps_from FIRST_STEP ps))) (sym (some_piece 10 after).2)

-- the fault of the steps is the fault of the text
pub steps_fail : (text : List ℕ) → length text ≤ MAX_BYTES → (after : List ℕ) (rule : RuleName) (values : List ℕ) →
    read_text text ≡ assemble rule values (at_least_one (steps_from FIRST_STEP (pieces 10 after))) → (e : Halt Fault) → ReadsSteps after (Err e) →
    Reads text (Err e)
steps_fail text short after rule values is (Refused f) h = is ∙ ap (assemble rule values) h
steps_fail text short after rule values is NoMemory h = short
