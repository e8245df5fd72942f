-- A schedule is read from no text but the one that writes it.
use Rattle.std.proofs.lemmas.List.Splits.{join_with_byte-slice_split}
use Rattle.std.proofs.lemmas.Grind.{common_steps}
use Rattle.std.proofs.lemmas.Bool.Decides.{nat_tests}
use Rattle.std.proofs.Common.{◌≡◌, ℕ, suc, ◌+◌, ◌^◌, ◌<◌, ◌≤◌, Bool, true, false, cond, ◌&&◌, eqb, ltb, leb, List, [], ◌∷◌, ◌++◌, map, length, take}
use Rattle.std.proofs.Common.{drop, is_some, Some, None, Ok, Err, codes, decimal, Option, sym, refl, ap, ◌∙◌, subst, append-nil, arith}
use lib.ListN.{length-map}
use Rattle.std.specs.List.{flat_map, join_with_byte, AllByRecursion}
use Rattle.std.proofs.lemmas.Slice.Eq.{bytes_eq-Decides}
use Rattle.std.proofs.lemmas.List.{nil_from_length, take-append-drop}
use Rattle.std.proofs.lemmas.Bool.{and_parts, eqb-true, leb-true, ltb-false}
use Rattle.protocol.specs.declared.types.Step.{Step}
use Rattle.schedule_text.specs.declared.types.Fault.{Fault}
use Rattle.schedule_text.specs.declared.types.Fault.TheVariants.{TooLong, Unfinished, WrongRule, WrongValues}
use Rattle.catalogue.specs.declared.RuleName.{RuleName}
use Rattle.catalogue.specs.Names.{NameFits, name_in}
use Rattle.catalogue.proofs.Names.{names_read_back}
use Rattle.schedule_text.specs.declared.reader.TheConstants.{MAX_BYTES, FIRST_STEP}
use Rattle.schedule_text.specs.Reading.{pieces, all_but_last, last_of, finished, unfinished, number_in, with_first, numbers_in, values_in}
use Rattle.schedule_text.specs.Reading.{values_line, rule_line, step_of, step_with, step_line, Plan, is_right, fault_at, first_wrong, and_step}
use Rattle.schedule_text.specs.Reading.{steps_in, planned, plan_in, unless, read_lines, read_text}
use Rattle.schedule_text.specs.Writing.{write_rule, write_value, step_letter, step_number, write_step, ended, write_schedule, PlanFits}
use Rattle.schedule_text.specs.Judging.{ValuesOn}
use Rattle.lists.proofs.Options.{none_some}
use Rattle.lists.proofs.Results.{ok_err, some_is}
use Rattle.schedule_text.proofs.Cutting.{split_is}
use Rattle.schedule_text.proofs.Numbers.{number_only}
use Rattle.schedule_text.proofs.Steps.{some_piece, right_later}

-- ---- a text is its pieces with the marks between them
joined : (mark : ℕ) (bs : List ℕ) → join_with_byte mark (pieces mark bs) ≡ bs
joined mark bs = ap (join_with_byte mark) (sym (split_is mark bs)) ∙ join_with_byte-slice_split mark bs

by_lines : (p : List ℕ) (ps : List (List ℕ)) → join_with_byte 10 (p ∷ ps) ≡ flat_map ended (all_but_last (p ∷ ps)) ++ last_of (p ∷ ps)
by_lines p [] = refl
by_lines p (q ∷ ps) = grind (arith, common_steps, by_lines q ps)

pub text_is : (text : List ℕ) → text ≡ flat_map ended (finished text) ++ unfinished text
text_is text = let some = some_piece 10 text in grind (arith, joined 10 text, some.2, by_lines some.0 some.1)

-- ---- lines
pub rule_only : (line : List ℕ) (r : RuleName) → rule_line line ≡ Some r → NameFits r × (line ≡ write_rule r)
rule_only line r h =
    let front : take 5 line ≡ codes "rule " = grind (arith, (bytes_eq-Decides (take 5 line) (codes "rule ")).0) in
    let named : name_in (drop 5 line) ≡ Some r = grind arith in
    let only = names_read_back.only (drop 5 line) r named in
    (only.0, sym (take-append-drop 5 line) ∙ ap (λ l. l ++ drop 5 line) front ∙ ap (λ l. codes "rule " ++ l) (sym only.1))

pub record Written (c n : ℕ) (s : Step) : Type 0 where
  pub letter : c ≡ step_letter s
  pub number : n ≡ step_number s

step_of_only : (c n : ℕ) (s : Step) → step_of c n ≡ Some s → Written c n s
step_of_only c n s h = record { letter = grind (arith, nat_tests); number = grind (arith, nat_tests) }

pub step_only : (line : List ℕ) (s : Step) → step_line line ≡ Some s → (step_number s < 2 ^ 16) × (line ≡ write_step s)
step_only [] s h = none_some h
step_only (c ∷ []) s h = none_some h
step_only (c ∷ b ∷ bs) s h = by_blank_and_number (eqb b 32) (number_in bs) refl refl h
  where
    by_blank_and_number : (t : Bool) (o : Option ℕ) → eqb b 32 ≡ t → number_in bs ≡ o → cond t (step_with c o) None ≡ Some s →
        (step_number s < 2 ^ 16) × (c ∷ b ∷ bs ≡ write_step s)
    by_blank_and_number false o e f is = none_some is
    by_blank_and_number true None e f is = none_some is
    by_blank_and_number true (Some n) e f is =
        let w = step_of_only c n s is in
        let d = number_only bs n f in (
          omega (arith, w.number, d.0),
          ap (λ x. x ∷ b ∷ bs) w.letter ∙ ap (λ x. step_letter s ∷ x ∷ bs) (eqb-true b 32 e)
              ∙ ap (λ l. step_letter s ∷ 32 ∷ l) (sym d.1 ∙ ap decimal w.number),
        )

-- ---- the values
pub record Numerals (ws : List (List ℕ)) (vs : List ℕ) : Type 0 where
  pub words : ws ≡ map decimal vs
  pub fit : AllByRecursion (λ n. n < 2 ^ 16) vs

numbers_only : (ws : List (List ℕ)) (vs : List ℕ) → numbers_in ws ≡ Some vs → Numerals ws vs
numbers_only [] vs h = let same : [] ≡ vs = cc in rw (← same) (record { words = refl; fit = tt })
numbers_only (w ∷ ws) vs h = by_number (number_in w) (numbers_in ws) refl refl (numbers_only ws) h
  where
    by_number : (o : Option ℕ) (r : Option (List ℕ)) → number_in w ≡ o → numbers_in ws ≡ r → ((ns : List ℕ) → numbers_in ws ≡ Some ns → Numerals ws ns) →
        with_first o r ≡ Some vs → Numerals (w ∷ ws) vs
    by_number None r e f later is = none_some is
    by_number (Some n) None e f later is = none_some is
    by_number (Some n) (Some ns) e f later is =
        let same : n ∷ ns ≡ vs = cc in
        let d = number_only w n e in
        let more = later ns f in
        rw (← same) (record { words = ap (λ x. x ∷ ws) (sym d.1) ∙ ap (λ l. decimal n ∷ l) more.words; fit = (d.0, more.fit) })

blanks_between : (w : List ℕ) (vs : List ℕ) → join_with_byte 32 (w ∷ map decimal vs) ≡ w ++ flat_map write_value vs
blanks_between w [] = sym (append-nil w)
blanks_between w (v ∷ vs) = ap (λ r. w ++ 32 ∷ r) (blanks_between (decimal v) vs)

values_in_only : (w : List ℕ) (ws : List (List ℕ)) (vs : List ℕ) → values_in (w ∷ ws) ≡ Some vs → ValuesOn (join_with_byte 32 (w ∷ ws)) vs
values_in_only w ws vs h =
    let front : w ≡ codes "values" = grind (arith, (bytes_eq-Decides w (codes "values")).0) in
    let read : numbers_in ws ≡ Some vs = grind arith in
    let more = numbers_only ws vs read in
    let count : length ws ≡ length vs = ap length more.words ∙ length-map vs decimal in
    record {
      some = grind (arith, nat_tests, count);
      few = grind (arith, nat_tests, count);
      fit = more.fit;
      is = ap (λ l. join_with_byte 32 (l ∷ ws)) front ∙ ap (λ l. join_with_byte 32 (codes "values" ∷ l)) more.words ∙ blanks_between (codes "values") vs;
    }

pub values_only : (line vs : List ℕ) → values_line line ≡ Some vs → ValuesOn line vs
values_only line vs h =
    let some = some_piece 32 line in
    let v = values_in_only some.0 some.1 vs (ap values_in (sym some.2) ∙ h) in
    subst (λ l. ValuesOn l vs) (ap (join_with_byte 32) (sym some.2) ∙ joined 32 line) v

-- ---- the steps
pub record Stepped (ls : List (List ℕ)) : Type 0 where
  pub is : flat_map ended ls ≡ flat_map (λ s. ended (write_step s)) (steps_in ls)
  pub fit : AllByRecursion (λ s. step_number s < 2 ^ 16) (steps_in ls)
  pub count : length (steps_in ls) ≡ length ls

steps_only : (k : ℕ) (ls : List (List ℕ)) → FIRST_STEP ≤ k → first_wrong k ls ≡ None → Stepped ls
steps_only k [] late h = record { is = refl; fit = tt; count = refl }
steps_only k (l ∷ ls) late h = by_first_line (is_right k l) refl h (steps_only (suc k) ls (omega arith))
  where
    by_first_line : (t : Bool) → is_right k l ≡ t → cond t (first_wrong (suc k) ls) (Some (fault_at k)) ≡ None →
        (first_wrong (suc k) ls ≡ None → Stepped ls) →
        Stepped (l ∷ ls)
    by_first_line false e is later = none_some (sym is)
    by_first_line true e is later =
        let step = some_is (step_line l) (sym (right_later k l late) ∙ e) in
        let d = step_only l step.0 step.1 in
        let more = later is in
        let all : steps_in (l ∷ ls) ≡ step.0 ∷ steps_in ls = ap (λ o. and_step o (steps_in ls)) step.1 in
        record {
          is = ap (λ x. ended x ++ flat_map ended ls) d.1 ∙ ap (λ r. ended (write_step step.0) ++ r) more.is
              ∙ ap (flat_map (λ s. ended (write_step s))) (sym all);
          fit = subst (AllByRecursion (λ s. step_number s < 2 ^ 16)) (sym all) (d.0, more.fit);
          count = ap length all ∙ ap suc more.count;
        }

-- ---- the text
module _ (text one two : List ℕ) (ls : List (List ℕ)) (short : length text ≤ MAX_BYTES) (is : text ≡ flat_map ended (one ∷ two ∷ ls) ++ [])
    (long : 0 < length ls) where
  lines_only : (r : RuleName) (vs : List ℕ) → rule_line one ≡ Some r → values_line two ≡ Some vs → Stepped ls → (p : Plan) →
      p ≡ record { rule = r; values = vs; steps = steps_in ls } → PlanFits p × (write_schedule p ≡ text)
  lines_only r vs ruled valued steps p same =
      let v = values_only two vs valued in
      let written_is : write_schedule (record { rule = r; values = vs; steps = steps_in ls }) ≡ text =
      sym (is ∙ append-nil (flat_map ended (one ∷ two ∷ ls)) ∙ ap (λ l. ended l ++ (ended two ++ flat_map ended ls)) (rule_only one r ruled).1
      ∙ ap (λ l. ended (write_rule r) ++ (ended l ++ flat_map ended ls)) v.is
      ∙ ap (λ l. ended (write_rule r) ++ (ended (codes "values" ++ flat_map write_value vs) ++ l)) steps.is) in
      rw same (
        record {
          rule_fits = (rule_only one r ruled).0;
          some_values = v.some;
          few_values = v.few;
          values_fit = v.fit;
          some_steps = omega (arith, steps.count);
          steps_fit = steps.fit;
          short = omega (arith, ap length written_is);
        },
        written_is,
      )

abbrev after_first : List (List ℕ) → Option RuleName → Option (List ℕ) → Option Fault
after_first ls o v = cond (is_some o) (cond (is_some v) (first_wrong FIRST_STEP ls) (Some WrongValues)) (Some WrongRule)

-- right lines, three at least, make a schedule
pub right_lines_plan : (ls : List (List ℕ)) → FIRST_STEP ≤ length ls → first_wrong 1 ls ≡ None → (p : Plan) × (plan_in ls ≡ Ok p)
right_lines_plan [] long right = absurd (omega arith)
right_lines_plan (one ∷ []) long right = absurd (omega arith)
right_lines_plan (one ∷ two ∷ ls) long right = made (rule_line one) (values_line two) right
  where
    made : (o : Option RuleName) (v : Option (List ℕ)) → after_first ls o v ≡ None → (p : Plan) × (planned o v (steps_in ls) ≡ Ok p)
    made None v is = none_some (sym is)
    made (Some r) None is = none_some (sym is)
    made (Some r) (Some vs) is = (record { rule = r; values = vs; steps = steps_in ls }, refl)

pub schedule_only : (text : List ℕ) (p : Plan) → read_text text ≡ Ok p → PlanFits p × (write_schedule p ≡ text)
unfolding read_text read_lines
schedule_only text p h = by_length (ltb MAX_BYTES (length text)) refl h
  where
    plan_of_lines : (ls : List (List ℕ)) (end : List ℕ) → length text ≤ MAX_BYTES → text ≡ flat_map ended ls ++ end → length end ≡ 0 →
        FIRST_STEP ≤ length ls →
        first_wrong 1 ls ≡ None → plan_in ls ≡ Ok p → PlanFits p × (write_schedule p ≡ text)
    plan_of_lines [] end short is none long right same = absurd (omega arith)
    plan_of_lines (one ∷ []) end short is none long right same = absurd (omega arith)
    plan_of_lines (one ∷ two ∷ ls) end short is none long right same = by_rule_and_values (rule_line one) (values_line two) refl refl right same
      where
        by_rule_and_values : (o : Option RuleName) (v : Option (List ℕ)) → rule_line one ≡ o → values_line two ≡ v → after_first ls o v ≡ None →
            planned o v (steps_in ls) ≡ Ok p → PlanFits p × (write_schedule p ≡ text)
        by_rule_and_values None v e f is' same' = none_some (sym is')
        by_rule_and_values (Some r) None e f is' same' = none_some (sym is')
        by_rule_and_values (Some r) (Some vs) e f is' same' =
            let made : record { rule = r; values = vs; steps = steps_in ls } ≡ p = cc in
            lines_only text one two ls short (is ∙ ap (λ l. flat_map ended (one ∷ two ∷ ls) ++ l) (nil_from_length end none)) (omega arith) r vs e f
            (steps_only FIRST_STEP ls (omega arith) is') p (sym made)

    lines_decide : (ls : List (List ℕ)) (end : List ℕ) → length text ≤ MAX_BYTES → text ≡ flat_map ended ls ++ end → (w : Option Fault) (t : Bool) →
        first_wrong 1 ls ≡ w → (eqb (length end) 0 && leb FIRST_STEP (length ls)) ≡ t →
        unless w (cond t (plan_in ls) (Err (Unfinished (length ls + 1)))) ≡ Ok p → PlanFits p × (write_schedule p ≡ text)
    lines_decide ls end short is (Some f) t e g h' = absurd (ok_err h')
    lines_decide ls end short is None false e g h' = absurd (ok_err h')
    lines_decide ls end short is None true e g h' =
        let parts = and_parts (eqb (length end) 0) (leb FIRST_STEP (length ls)) g in
        plan_of_lines ls end short is (eqb-true (length end) 0 parts.0) (leb-true FIRST_STEP (length ls) parts.1) e h'

    by_length : (t : Bool) → ltb MAX_BYTES (length text) ≡ t → cond t (Err TooLong) (read_lines (finished text) (unfinished text)) ≡ Ok p →
        PlanFits p × (write_schedule p ≡ text)
    by_length true e h' = absurd (ok_err h')
    by_length false e h' = lines_decide (finished text) (unfinished text) (ltb-false MAX_BYTES (length text) e) (text_is text) (first_wrong 1 (finished text))
        (eqb (length (unfinished text)) 0 && leb FIRST_STEP (length (finished text))) refl refl h'
