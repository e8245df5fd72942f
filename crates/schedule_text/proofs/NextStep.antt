-- Where the line of a step ends, if a text begins with one.
use Rattle.std.proofs.Common.{◌≡◌, ℕ, ◌+◌, ◌-◌, ◌<◌, ◌≤◌, true, List, [], ◌∷◌, ◌++◌, ◌==◌, eqb, false, length, get_or, take, drop, Some, None, Option}
use Rattle.std.proofs.Common.{sym, refl, ap, ◌∙◌, arith}
use Rattle.std.specs.List.{position, position_or_len}
use Rattle.std.proofs.lemmas.List.{drop_more, take-append-drop, get_or-drop, length-take-le, length-drop}
use Rattle.std.proofs.lemmas.List.Quantifiers.{position-Some}
use Rattle.std.proofs.lemmas.List.Sums.{position_or_len_is}
use Rattle.std.proofs.lemmas.Bool.{cond-true, eqb-true, lt-ltb}
use Rattle.std.proofs.lemmas.Fmt.{decimal_nonempty}
use Rattle.protocol.specs.declared.types.Step.{Step}
use Rattle.schedule_text.specs.declared.reader.TheConstants.{SHORTEST_STEP}
use Rattle.schedule_text.specs.Reading.{pieces, step_line, NoStep}
use Rattle.schedule_text.specs.Writing.{step_number}
use Rattle.schedule_text.proofs.Cutting.{cut_at, first_cut}
use Rattle.schedule_text.proofs.Steps.{some_piece}
use Rattle.schedule_text.proofs.ReadBack.{without, without_step, pieces_line}
use Rattle.schedule_text.proofs.ReadOnly.{step_only}

-- a step's line has three bytes at least
step_line_length : (line : List ℕ) (s : Step) → step_line line ≡ Some s → SHORTEST_STEP ≤ length line
step_line_length line s e =
    let o = step_only line s e in
    omega (arith, ap length o.1, decimal_nonempty (step_number s) (omega (arith, o.0)))

-- and no line end
step_line_unbroken : (line : List ℕ) (s : Step) → step_line line ≡ Some s → without 10 line ≡ true
step_line_unbroken line s e = let o = step_only line s e in rw o.1 (without_step s o.0)

-- a step's line up to the first line end from the fourth byte on is the text's first line
pub step_cut : (text : List ℕ) (i : ℕ) (s : Step) → position (λ b. b == 10) (drop SHORTEST_STEP text) ≡ Some i →
    step_line (take (SHORTEST_STEP + i) text) ≡ Some s →
    pieces 10 text ≡ take (SHORTEST_STEP + i) text ∷ pieces 10 (drop (SHORTEST_STEP + i + 1) text)
step_cut text i s at e =
    let end = SHORTEST_STEP + i in
    let found = position-Some (λ b. b == 10) (drop SHORTEST_STEP text) i 0 at in
    let inside : end < length text = omega (arith, found.0, length-drop SHORTEST_STEP text) in
    let mark : get_or text end 0 ≡ 10 = sym (get_or-drop SHORTEST_STEP text i 0) ∙ eqb-true _ 10 found.1 in
    ap (pieces 10) (sym (take-append-drop end text) ∙ ap (λ l. take end text ++ l) (drop_more text end 0 inside ∙ ap (λ b. b ∷ drop (end + 1) text) mark)) ∙
    pieces_line 10 (take end text) (drop (end + 1) text) (step_line_unbroken (take end text) s e)

-- where the first line is a step's, it ends at its length, and the search from the fourth byte on finds that place
module _ (text line later : List ℕ) (cut : pieces 10 text ≡ line ∷ pieces 10 later) (s : Step) (e : step_line line ≡ Some s) where
  abbrev Ends : ℕ → Type 0
  Ends i = (line ≡ take i text) × (i < length text) × (eqb (get_or text i 0) 10 ≡ true) × ((k : ℕ) → k < i → eqb (get_or text k 0) 10 ≡ false)

  line_end_found : (i : ℕ) × Ends i
  line_end_found = by_position (position (λ b. b == 10) text) refl (sym cut ∙ first_cut 10 text)
    where
      by_position : (o : Option ℕ) → position (λ b. b == 10) text ≡ o → line ∷ pieces 10 later ≡ cut_at 10 text o → (i : ℕ) × Ends i
      by_position None p h = let some = some_piece 10 later in absurd (grind (arith, some.2, h))
      by_position (Some i) p h = let at = position-Some (λ b. b == 10) text i 0 p in (i, (ap (λ l. get_or l 0 []) h, at.0, at.1, at.2))

  pub search_finds_step : (i : ℕ) × (SHORTEST_STEP ≤ length text) × (position (λ b. b == 10) (drop SHORTEST_STEP text) ≡ Some i)
      × (step_line (take (SHORTEST_STEP + i) text) ≡ Some s)
  search_finds_step =
      let j = line_end_found.0 in
      let at = line_end_found.1 in
      let size : SHORTEST_STEP ≤ j = omega (arith, step_line_length line s e, ap length at.0, length-take-le j text (omega (arith, at.1))) in
      let there : (k : ℕ) → get_or (drop SHORTEST_STEP text) k 0 ≡ get_or text (SHORTEST_STEP + k) 0 = λ k. get_or-drop SHORTEST_STEP text k 0 in
      let back : SHORTEST_STEP + (j - SHORTEST_STEP) ≡ j = omega arith in
      let place : position_or_len (λ b. b == 10) (drop SHORTEST_STEP text) ≡ j - SHORTEST_STEP =
      position_or_len_is _ (drop SHORTEST_STEP text) (j - SHORTEST_STEP) 0 (omega (arith, at.1, length-drop SHORTEST_STEP text))
      (λ k m. rw (there k) (at.3 (SHORTEST_STEP + k) (omega arith)))
      (λ m. rw (there (j - SHORTEST_STEP), back) at.2) in (
        j - SHORTEST_STEP,
        omega (arith, at.1),
        rw place (cond-true _ _ _ (lt-ltb (j - SHORTEST_STEP) (length (drop SHORTEST_STEP text)) (omega (arith, at.1, length-drop SHORTEST_STEP text)))),
        ap step_line (ap (λ n. take n text) back ∙ sym at.0) ∙ e,
      )

-- so where that search finds nothing, or a line that writes no step, the text begins with no step
pub no_step : (text : List ℕ) → ((i : ℕ) (s : Step) → SHORTEST_STEP ≤ length text → position (λ b. b == 10) (drop SHORTEST_STEP text) ≡ Some i →
    step_line (take (SHORTEST_STEP + i) text) ≡ Some s → ⊥) → NoStep text
no_step text missed line later cut = by_step (step_line line) refl
  where
    by_step : (o : Option Step) → step_line line ≡ o → None ≡ step_line line
    by_step None e = sym e
    by_step (Some s) e = let f = search_finds_step text line later cut s e in absurd (missed f.0 s f.1 f.2 f.3)
