-- A text is answered by a fault exactly where its lines have that fault; and the laws of reading.
use Rattle.std.proofs.lemmas.Bool.Decides.{nat_tests}
use Rattle.std.proofs.Common.{◌≡◌, ℕ, zero, suc, ◌+◌, ◌<◌, ◌≤◌, Bool, true, false, cond, ◌&&◌, eqb, ltb, leb, ◌⊎◌, List, [], ◌∷◌, ◌++◌, length}
use Rattle.std.proofs.Common.{is_some, Some, None, Ok, Err, Option, Result, sym, refl, ap, ◌∙◌, subst, inl, inr, append_assoc, arith}
use Rattle.std.specs.List.{flat_map, AllByRecursion}
use Rattle.std.proofs.lemmas.Bool.{and_parts, leb-true, eqb-false, ltb-true, ltb-false, cond-true, cond-false, cases_Bool, false≢true}
use Rattle.lists.proofs.Options.{none_some, same_some}
use Rattle.lists.proofs.Results.{ok_err, some_is}
use Rattle.schedule_text.specs.declared.types.Fault.{Fault}
use Rattle.schedule_text.specs.declared.types.Fault.TheVariants.{TooLong, WrongRule, WrongValues, WrongStep, Unfinished}
use Rattle.schedule_text.specs.declared.reader.TheConstants.{MAX_BYTES, FIRST_STEP}
use Rattle.schedule_text.specs.Reading.{Plan, onto_first, pieces, all_but_last, last_of, finished, unfinished, rule_line, values_line, step_line}
use Rattle.schedule_text.specs.Reading.{is_right, fault_at, first_wrong, plan_in, unless, read_lines, read_text}
use Rattle.schedule_text.specs.Writing.{ended, write_schedule, PlanFits}
use Rattle.schedule_text.specs.Judging.{Unbroken, Cut, RightLine, AllRightLines, WrongAt, StopsAt, HasFault, ReadOneWay, ReadingLaws}
use Rattle.schedule_text.proofs.Numbers.{numbers_read_back}
use Rattle.schedule_text.proofs.Steps.{some_piece, right_later, wrong_later}
use Rattle.schedule_text.proofs.Whole.{by_pieces_is, too_long}
use Rattle.schedule_text.proofs.ReadBack.{schedule_back, unbroken_without, pieces_line, pieces_all, ended_then, rule_back, values_back, step_back}
use Rattle.schedule_text.proofs.ReadOnly.{right_lines_plan, schedule_only, text_is, rule_only, values_only, step_only}

-- ---- a text and its lines
unbroken_pieces : (bs : List ℕ) → AllByRecursion Unbroken (pieces 10 bs)
unfolding pieces
unbroken_pieces [] = (tt, tt)
unbroken_pieces (b ∷ bs) = let some = some_piece 10 bs in with_byte (eqb b 10) refl (pieces 10 bs) some.0 some.1 some.2 (unbroken_pieces bs)
  where
    with_byte : (t : Bool) → eqb b 10 ≡ t → (l : List (List ℕ)) (p : List ℕ) (ps : List (List ℕ)) → l ≡ p ∷ ps → AllByRecursion Unbroken l →
        AllByRecursion Unbroken (cond t ([] ∷ l) (onto_first b l))
    with_byte true e l p ps is h = (tt, h)
    with_byte false e l p ps is h = let old : AllByRecursion Unbroken (p ∷ ps) = rw is at h in rw is ((eqb-false b 10 e, old.0), old.1)

unbroken_lines : (p : List ℕ) (ps : List (List ℕ)) → AllByRecursion Unbroken (p ∷ ps) →
    AllByRecursion Unbroken (all_but_last (p ∷ ps)) × Unbroken (last_of (p ∷ ps))
unbroken_lines p [] h = (tt, h.0)
unbroken_lines p (q ∷ ps) h = let later = unbroken_lines q ps h.1 in ((h.0, later.0), later.1)

cut_of : (text : List ℕ) → Cut text (finished text) (unfinished text)
cut_of text =
    let some = some_piece 10 text in
    let all : AllByRecursion Unbroken (some.0 ∷ some.1) = subst (AllByRecursion Unbroken) some.2 (unbroken_pieces text) in
    let both = unbroken_lines some.0 some.1 all in
    record {
      is = text_is text;
      lines_unbroken = subst (λ ps. AllByRecursion Unbroken (all_but_last ps)) (sym some.2) both.0;
      rest_unbroken = subst (λ ps. Unbroken (last_of ps)) (sym some.2) both.1;
    }

cut_pieces : (lines : List (List ℕ)) (rest : List ℕ) → AllByRecursion Unbroken lines → Unbroken rest →
    pieces 10 (flat_map ended lines ++ rest) ≡ lines ++ rest ∷ []
cut_pieces [] rest us u = pieces_all 10 rest (unbroken_without rest u)
cut_pieces (l ∷ ls) rest us u =
    ap (pieces 10) (append_assoc (ended l) (flat_map ended ls) rest ∙ ended_then l (flat_map ended ls ++ rest))
    ∙ pieces_line 10 l (flat_map ended ls ++ rest) (unbroken_without l us.0) ∙ ap (λ ps. l ∷ ps) (cut_pieces ls rest us.1 u)

lines_and_rest : (lines : List (List ℕ)) (rest : List ℕ) → (all_but_last (lines ++ rest ∷ []) ≡ lines) × (last_of (lines ++ rest ∷ []) ≡ rest)
lines_and_rest [] rest = (refl, refl)
lines_and_rest (l ∷ []) rest = (refl, refl)
lines_and_rest (l ∷ m ∷ ls) rest = let later = lines_and_rest (m ∷ ls) rest in (ap (λ ps. l ∷ ps) later.0, later.1)

-- a text has one cut
cut_lines : (text : List ℕ) (lines : List (List ℕ)) (rest : List ℕ) → Cut text lines rest → (finished text ≡ lines) × (unfinished text ≡ rest)
cut_lines text lines rest c =
    let all : pieces 10 text ≡ lines ++ rest ∷ [] = ap (pieces 10) c.is ∙ cut_pieces lines rest c.lines_unbroken c.rest_unbroken in
    let both = lines_and_rest lines rest in
    (ap all_but_last all ∙ both.0, ap last_of all ∙ both.1)

-- ---- right lines
right_line_from_test : (k : ℕ) (line : List ℕ) → 1 ≤ k → is_right k line ≡ true → RightLine k line
right_line_from_test zero line h e = absurd (omega arith)
right_line_from_test (suc zero) line h e = let r = some_is (rule_line line) e in let only = rule_only line r.0 r.1 in (r.0, only.0, only.1)
right_line_from_test (suc (suc zero)) line h e =
    let v = some_is (values_line line) e in
    (v.0, values_only line v.0 v.1)
right_line_from_test (suc (suc (suc k))) line h e =
    let s = some_is (step_line line) (sym (right_later (suc (suc (suc k))) line (omega arith)) ∙ e) in
    let only = step_only line s.0 s.1 in
    (s.0, only.0, only.1)

right_line_passes : (k : ℕ) (line : List ℕ) → RightLine k line → is_right k line ≡ true
right_line_passes zero line h = absurd h
right_line_passes (suc zero) line h = ap is_some (ap rule_line h.2 ∙ sym (rule_back h.0 h.1))
right_line_passes (suc (suc zero)) line h = ap is_some (ap values_line h.1.is ∙ sym (values_back h.0 h.1.some h.1.few h.1.fit))
right_line_passes (suc (suc (suc k))) line h = right_later (suc (suc (suc k))) line (omega arith) ∙ ap is_some (ap step_line h.2 ∙ step_back h.0 h.1)

-- ---- the first wrong line, where the first of the lines has the number k
pub record FirstWrong (k : ℕ) (lines : List (List ℕ)) (f : Fault) : Type 0 where
  pub before : List (List ℕ)
  pub line : List ℕ
  pub later : List (List ℕ)
  pub is : lines ≡ before ++ line ∷ later
  pub right : AllRightLines k before
  pub wrong : RightLine (k + length before) line → ⊥
  pub fault : fault_at (k + length before) ≡ f

first_wrong_found : (k : ℕ) (lines : List (List ℕ)) (f : Fault) → 1 ≤ k → first_wrong k lines ≡ Some f → FirstWrong k lines f
first_wrong_found k [] f h e = none_some e
first_wrong_found k (l ∷ ls) f h e = by_first_line (is_right k l) refl e (λ e'. first_wrong_found (suc k) ls f (omega arith) e')
  where
    by_first_line : (t : Bool) → is_right k l ≡ t → cond t (first_wrong (suc k) ls) (Some (fault_at k)) ≡ Some f →
        (first_wrong (suc k) ls ≡ Some f → FirstWrong (suc k) ls f) → FirstWrong k (l ∷ ls) f
    by_first_line true g e' further =
        let w = further e' in
        let n : k + suc (length w.before) ≡ suc k + length w.before = omega arith in
        record {
          before = l ∷ w.before;
          line = w.line;
          later = w.later;
          is = ap (λ x. l ∷ x) w.is;
          right = (right_line_from_test k l h g, w.right);
          wrong = λ r. w.wrong (subst (λ j. RightLine j w.line) n r);
          fault = ap fault_at n ∙ w.fault;
        }
    by_first_line false g e' further =
        let n : k + 0 ≡ k = omega arith in
        record {
          before = [];
          line = l;
          later = ls;
          is = refl;
          right = tt;
          wrong = λ r. false≢true (sym g ∙ right_line_passes k l (subst (λ j. RightLine j l) n r));
          fault = ap fault_at n ∙ same_some e';
        }

first_wrong_stays : (k : ℕ) (before : List (List ℕ)) (line : List ℕ) (later : List (List ℕ)) → 1 ≤ k → AllRightLines k before →
    (RightLine (k + length before) line → ⊥) →
    first_wrong k (before ++ line ∷ later) ≡ Some (fault_at (k + length before))
first_wrong_stays k [] line later h rights bad =
    let n : k ≡ k + 0 = omega arith in
    elim (cases_Bool (is_right k line)) [
      | inl t ↦ absurd (bad (subst (λ j. RightLine j line) n (right_line_from_test k line h t)))
      | inr t ↦ cond-false (is_right k line) _ _ t ∙ ap (λ j. Some (fault_at j)) n
    ]
first_wrong_stays k (l ∷ ls) line later h rights bad =
    let n : suc k + length ls ≡ k + suc (length ls) = omega arith in
    cond-true (is_right k l) _ _ (right_line_passes k l rights.0)
    ∙ first_wrong_stays (suc k) ls line later (omega arith) rights.1 (λ r. bad (subst (λ j. RightLine j line) n r)) ∙ ap (λ j. Some (fault_at j)) n

no_wrong_line : (k : ℕ) (lines : List (List ℕ)) → 1 ≤ k → first_wrong k lines ≡ None → AllRightLines k lines
no_wrong_line k [] h e = tt
no_wrong_line k (l ∷ ls) h e = (right_line_from_test k l h (grind arith), no_wrong_line (suc k) ls (omega arith) (grind arith))

right_lines_pass : (k : ℕ) (lines : List (List ℕ)) → AllRightLines k lines → first_wrong k lines ≡ None
right_lines_pass k [] rights = refl
right_lines_pass k (l ∷ ls) rights = grind (arith, right_line_passes k l rights.0, right_lines_pass (suc k) ls rights.1)

-- ---- the text's fault
module _ (text : List ℕ) where
  fault_of_wrong_line : (k : ℕ) → 1 ≤ k → length text ≤ MAX_BYTES → WrongAt text k → HasFault text (fault_at k)
  fault_of_wrong_line zero h short w = absurd (omega arith)
  fault_of_wrong_line (suc zero) h short w = (short, w)
  fault_of_wrong_line (suc (suc zero)) h short w = (short, w)
  fault_of_wrong_line (suc (suc (suc k))) h short w = subst (HasFault text) (sym (wrong_later (suc (suc (suc k))) (omega arith))) (short, omega arith, w)

  fault_of_lines : (lines : List (List ℕ)) (rest : List ℕ) → Cut text lines rest → length text ≤ MAX_BYTES → (f : Fault) (o : Option Fault) (t : Bool) →
      first_wrong 1 lines ≡ o → (eqb (length rest) 0 && leb FIRST_STEP (length lines)) ≡ t →
      unless o (cond t (plan_in lines) (Err (Unfinished (length lines + 1)))) ≡ Err f → HasFault text f
  fault_of_lines lines rest cut short f (Some g) t ew et e =
      let same : g ≡ f = cc in
      let w = first_wrong_found 1 lines g (omega arith) ew in
      let n : 1 + length w.before ≡ suc (length w.before) = omega arith in
      let at : WrongAt text (1 + length w.before) = record {
        before = w.before;
        line = w.line;
        later = w.later;
        rest = rest;
        cut = subst (λ ls. Cut text ls rest) w.is cut;
        number = n;
        right = w.right;
        wrong = w.wrong;
      } in
      subst (HasFault text) (w.fault ∙ same) (fault_of_wrong_line (1 + length w.before) (omega arith) short at)
  fault_of_lines lines rest cut short f None true ew et e =
      let parts = and_parts (eqb (length rest) 0) (leb FIRST_STEP (length lines)) et in
      let made = right_lines_plan lines (leb-true FIRST_STEP (length lines) parts.1) ew in
      absurd (ok_err (sym e ∙ made.1))
  fault_of_lines lines rest cut short f None false ew et e =
      let same : Unfinished (length lines + 1) ≡ f = cc in
      subst (HasFault text) same (
        short,
        record {
          lines = lines;
          rest = rest;
          cut = cut;
          number = omega arith;
          right = no_wrong_line 1 lines (omega arith) ew;
          stops = stopped (eqb (length rest) 0) refl et;
        },
      )
    where
      stopped : (a : Bool) → eqb (length rest) 0 ≡ a → (a && leb FIRST_STEP (length lines)) ≡ false → (0 < length rest) ⊎ (length lines + 1 ≤ FIRST_STEP)
      stopped true ea eb = inr (grind (arith, nat_tests))
      stopped false ea eb = inl (grind (arith, nat_tests))

  pub told_fault : (f : Fault) → read_text text ≡ Err f → HasFault text f
  unfolding read_text read_lines
  told_fault f e = by_length (ltb MAX_BYTES (length text)) refl e
    where
      by_length : (t : Bool) → ltb MAX_BYTES (length text) ≡ t → cond t (Err TooLong) (read_lines (finished text) (unfinished text)) ≡ Err f → HasFault text f
      by_length true long e' = let same : TooLong ≡ f = cc in subst (HasFault text) same (ltb-true MAX_BYTES (length text) long)
      by_length false long e' = fault_of_lines (finished text) (unfinished text) (cut_of text) (ltb-false MAX_BYTES (length text) long) f
          (first_wrong 1 (finished text)) (eqb (length (unfinished text)) 0 && leb FIRST_STEP (length (finished text))) refl refl e'

  wrong_told : (k : ℕ) → length text ≤ MAX_BYTES → WrongAt text k → read_text text ≡ Err (fault_at k)
  unfolding read_lines
  wrong_told k short w =
      let n : 1 + length w.before ≡ k = omega (arith, w.number) in
      let both = cut_lines text (w.before ++ w.line ∷ w.later) w.rest w.cut in
      let first : first_wrong 1 (finished text) ≡ Some (fault_at k) =
      ap (first_wrong 1) both.0 ∙ first_wrong_stays 1 w.before w.line w.later (omega arith) w.right (λ r. w.wrong (subst (λ j. RightLine j w.line) n r))
      ∙ ap (λ j. Some (fault_at j)) n in
      by_pieces_is text short ∙ ap (λ o. unless o
      (cond (eqb (length (unfinished text)) 0 && leb FIRST_STEP (length (finished text))) (plan_in (finished text))
      (Err (Unfinished (length (finished text) + 1))))) first

  stops_told : (k : ℕ) → length text ≤ MAX_BYTES → StopsAt text k → read_text text ≡ Err (Unfinished k)
  unfolding read_lines
  stops_told k short s =
      let both = cut_lines text s.lines s.rest s.cut in
      let n : length s.lines + 1 ≡ k = omega (arith, s.number) in
      let first : first_wrong 1 s.lines ≡ None = right_lines_pass 1 s.lines s.right in
      let test : (eqb (length s.rest) 0 && leb FIRST_STEP (length s.lines)) ≡ false = grind (arith, nat_tests, s.number, s.stops) in
      by_pieces_is text short ∙ ap (λ ls. read_lines ls (unfinished text)) both.0 ∙ ap (read_lines s.lines) both.1
      ∙ ap (λ o. unless o (cond (eqb (length s.rest) 0 && leb FIRST_STEP (length s.lines)) (plan_in s.lines) (Err (Unfinished (length s.lines + 1))))) first
      ∙ cond-false (eqb (length s.rest) 0 && leb FIRST_STEP (length s.lines)) _ _ test ∙ ap (λ (j : ℕ). Err (Unfinished j)) n

  pub fault_told : (f : Fault) → HasFault text f → read_text text ≡ Err f
  fault_told TooLong h = too_long text h
  fault_told WrongRule h = wrong_told 1 h.0 h.1
  fault_told WrongValues h = wrong_told 2 h.0 h.1
  fault_told (WrongStep k) h = wrong_told k h.0 h.2 ∙ ap (λ (f : Fault). Err f) (wrong_later k h.1)
  fault_told (Unfinished k) h = stops_told k h.0 h.1

-- ---- the laws
one_way : ReadOneWay
one_way = record {
  either = λ text. by_answer text (read_text text) refl;
  one_schedule = λ p q fp fq same. let both : Ok p ≡ Ok q = sym (schedule_back p fp) ∙ ap read_text same ∙ schedule_back q fq in cc;
  one_fault = λ text f g hf hg. let both : Err f ≡ Err g = sym (fault_told text f hf) ∙ fault_told text g hg in cc;
  not_both = λ p f fits h. ok_err (sym (fault_told (write_schedule p) f h) ∙ schedule_back p fits);
}
  where
    by_answer : (text : List ℕ) (r : Result Plan Fault) → read_text text ≡ r →
        ((p : Plan) × PlanFits p × (write_schedule p ≡ text)) ⊎ ((f : Fault) × HasFault text f)
    by_answer text (Ok p) e = let o = schedule_only text p e in inl (p, o.0, o.1)
    by_answer text (Err f) e = inr (f, told_fault text f e)

pub reading_laws : ReadingLaws
reading_laws = record {
  numbers = numbers_read_back;
  schedules = record { back = schedule_back; only = schedule_only };
  faults = record { told = told_fault; had = fault_told };
  one_way = one_way;
}
