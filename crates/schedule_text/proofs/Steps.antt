-- The step lines, line by line, and the whole text.
use Rattle.std.proofs.lemmas.Grind.{common_steps}
use Rattle.std.proofs.Common.{◌≡◌, ℕ, suc, ◌+◌, ◌<◌, ◌≤◌, Bool, true, false, cond, eqb, List, [], ◌∷◌, ◌++◌, length, is_some, Some, None, Ok, Err}
use Rattle.std.proofs.Common.{Option, Result, sym, refl, ap, ◌∙◌, append-nil, arith}
use Rattle.std.proofs.lemmas.List.{nil_from_length}
use Rattle.std.proofs.lemmas.Bool.Decides.{nat_tests}
use Rattle.protocol.specs.declared.types.Step.{Step}
use Rattle.schedule_text.specs.declared.reader.TheConstants.{FIRST_STEP}
use Rattle.schedule_text.specs.declared.types.Fault.{Fault}
use Rattle.schedule_text.specs.declared.types.Fault.TheVariants.{WrongStep, Unfinished}
use Rattle.schedule_text.specs.Reading.{onto_first, pieces, step_line, is_right, fault_at, first_wrong, all_but_last, last_of, steps_in, unless}
use Rattle.schedule_text.specs.Reading.{steps_from, at_least_one}

-- steps read before those of the lines that are left
abbrev pub prepend : List Step → Result (List Step) Fault → Result (List Step) Fault
prepend xs (Ok ys) = Ok (xs ++ ys)
prepend xs (Err f) = Err f

pub prepend_more : (xs : List Step) (s : Step) (r : Result (List Step) Fault) → prepend xs (prepend (s ∷ []) r) ≡ prepend (xs ++ s ∷ []) r
prepend_more xs s (Ok ys) = grind (arith, common_steps)
prepend_more xs s (Err f) = refl

-- from the third line on every line is a step
pub right_later : (k : ℕ) (line : List ℕ) → FIRST_STEP ≤ k → is_right k line ≡ is_some (step_line line)
right_later k line l = grind (arith, nat_tests)

pub wrong_later : (k : ℕ) → FIRST_STEP ≤ k → fault_at k ≡ WrongStep k
wrong_later k l = grind (arith, nat_tests)

-- there is always a piece
pub some_piece : (mark : ℕ) (bs : List ℕ) → (p : List ℕ) × (ps : List (List ℕ)) × (pieces mark bs ≡ p ∷ ps)
unfolding pieces
some_piece mark [] = ([], [], refl)
some_piece mark (b ∷ bs) = with_byte (eqb b mark) (pieces mark bs)
  where
    with_byte : (t : Bool) (l : List (List ℕ)) → (p : List ℕ) × (ps : List (List ℕ)) × (cond t ([] ∷ l) (onto_first b l) ≡ p ∷ ps)
    with_byte true l = ([], l, refl)
    with_byte false [] = (b ∷ [], [], refl)
    with_byte false (p ∷ ps) = (b ∷ p, ps, refl)

-- a fault of the later lines is the fault of all, and their steps come after the first
after_step : (k : ℕ) (s : Step) (w : Option Fault) (ended : Bool) (m : ℕ) (ss : List Step) →
    unless w (cond ended (Ok (s ∷ ss)) (Err (Unfinished (suc m + k)))) ≡ prepend (s ∷ []) (unless w (cond ended (Ok ss) (Err (Unfinished (m + suc k)))))
after_step k s (Some f) ended m ss = refl
after_step k s None true m ss = refl
after_step k s None false m ss = let number : suc m + k ≡ m + suc k = omega arith in ap (λ (n : ℕ). Err (Unfinished n)) number

module _ (k : ℕ) (late : FIRST_STEP ≤ k) (line : List ℕ) where
  step_then : (s : Step) (p : List ℕ) (ps : List (List ℕ)) → step_line line ≡ Some s →
      steps_from k (line ∷ p ∷ ps) ≡ prepend (s ∷ []) (steps_from (suc k) (p ∷ ps))
  step_then s p ps e =
      let right : is_right k line ≡ true = right_later k line late ∙ ap is_some e in
      rw (right, e) (after_step k s (first_wrong (suc k) (all_but_last (p ∷ ps))) (eqb (length (last_of (p ∷ ps))) 0) (length (all_but_last (p ∷ ps)))
      (steps_in (all_but_last (p ∷ ps))))

  wrong_then : (p : List ℕ) (ps : List (List ℕ)) → step_line line ≡ None → steps_from k (line ∷ p ∷ ps) ≡ Err (WrongStep k)
  wrong_then p ps e = grind (arith, right_later k line late, wrong_later k late, e)

  -- a right line, and a wrong one
  pub step_more : (s : Step) (after : List ℕ) → Some s ≡ step_line line →
      steps_from k (line ∷ pieces 10 after) ≡ prepend (s ∷ []) (steps_from (suc k) (pieces 10 after))
  step_more s after e = let some = some_piece 10 after in rw some.2 (step_then s some.0 some.1 (sym e))

  pub step_wrong : (after : List ℕ) → None ≡ step_line line → steps_from k (line ∷ pieces 10 after) ≡ Err (WrongStep k)
  step_wrong after e = let some = some_piece 10 after in rw some.2 (wrong_then some.0 some.1 (sym e))

-- xs are the steps of the lines before line k, with which rest begins
module _ (text rest : List ℕ) (xs : List Step) (k : ℕ) (late : FIRST_STEP ≤ k)
    (inv : prepend xs (steps_from k (pieces 10 rest)) ≡ steps_from FIRST_STEP (pieces 10 text)) where
  pub stops_wrong : (bytes after : List ℕ) → pieces 10 rest ≡ bytes ∷ pieces 10 after → None ≡ step_line bytes →
      at_least_one (steps_from FIRST_STEP (pieces 10 text)) ≡ Err (WrongStep k)
  stops_wrong bytes after cut e =
      ap at_least_one (sym inv ∙ ap (λ ps. prepend xs (steps_from k ps)) cut ∙ ap (prepend xs) (step_wrong k late bytes after e))

  pub goes_on : (bytes after : List ℕ) (s : Step) → pieces 10 rest ≡ bytes ∷ pieces 10 after → Some s ≡ step_line bytes →
      prepend (xs ++ s ∷ []) (steps_from (suc k) (pieces 10 after)) ≡ steps_from FIRST_STEP (pieces 10 text)
  goes_on bytes after s cut e =
      sym (prepend_more xs s (steps_from (suc k) (pieces 10 after))) ∙ ap (prepend xs) (sym (step_more k late bytes s after e))
      ∙ ap (λ ps. prepend xs (steps_from k ps)) (sym cut) ∙ inv

  steps_at_end : length rest ≡ 0 → steps_from FIRST_STEP (pieces 10 text) ≡ Ok xs
  unfolding pieces
  steps_at_end e =
      sym inv ∙ ap (λ bs. prepend xs (steps_from k (pieces 10 bs))) (nil_from_length rest e) ∙ ap (λ (l : List Step). Ok l) (append-nil xs)

  pub ends_some : length rest ≡ 0 → 0 < length xs → at_least_one (steps_from FIRST_STEP (pieces 10 text)) ≡ Ok xs
  ends_some e some = ap at_least_one (steps_at_end e) ∙ some_step xs some
    where
      some_step : (l : List Step) → 0 < length l → at_least_one (Ok l) ≡ Ok l
      some_step [] h = absurd (omega arith)
      some_step (s ∷ ss) h = refl
