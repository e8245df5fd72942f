-- The parts of a run and of its listing, one more at a time.
use Rattle.std.proofs.Common.{◌≡◌, ℕ, suc, ◌+◌, ◌<◌, List, [], ◌∷◌, ◌++◌, length, get_or, drop, Some, None, Option, sym, ap, ◌∙◌, append_assoc, add-one, arith}
use Rattle.std.proofs.lemmas.List.{at_drop_more}
use Rattle.rules.specs.Rule.{Behaviour}
use Rattle.lists.proofs.Tables.{tabulate_more}
use Rattle.protocol.specs.declared.refusal.Refusal.{Refusal}
use Rattle.protocol.specs.declared.types.Sight.{Sight}
use Rattle.protocol.specs.World.{World}
use Rattle.listing.specs.declared.printer.RefusedStep.{RefusedStep}
use Rattle.schedule_text.specs.declared.reader.TheConstants.{FIRST_STEP}
use Rattle.protocol.specs.Calls.{sight_of}
use Rattle.schedule.specs.Program.{refused_from, sights}

-- ---- refused steps
-- xs are the refused ones of the first i outcomes
module _ (fs : List (Option Refusal)) (i : ℕ) (h : i < length fs) (xs whole : List RefusedStep)
    (inv : xs ++ refused_from (i + FIRST_STEP) (drop i fs) ≡ whole) where
  outcome_first : (o : Option Refusal) → get_or fs i None ≡ o → xs ++ refused_from (i + FIRST_STEP) (o ∷ drop (i + 1) fs) ≡ whole
  outcome_first o is = ap (λ x. xs ++ refused_from (i + FIRST_STEP) (x ∷ drop (i + 1) fs)) (sym is)
      ∙ ap (λ l. xs ++ l) (sym (at_drop_more (refused_from (i + FIRST_STEP)) fs i None h)) ∙ inv

  line_after : suc (i + FIRST_STEP) ≡ i + 1 + FIRST_STEP
  line_after = omega arith

  pub refused_not : get_or fs i None ≡ None → xs ++ refused_from (i + 1 + FIRST_STEP) (drop (i + 1) fs) ≡ whole
  refused_not is = ap (λ k. xs ++ refused_from k (drop (i + 1) fs)) (sym line_after) ∙ outcome_first None is

  pub refused_more : (f : Refusal) (ys : List RefusedStep) → get_or fs i None ≡ Some f → ys ≡ xs ++ record { line = i + FIRST_STEP; refusal = f } ∷ [] →
      ys ++ refused_from (i + 1 + FIRST_STEP) (drop (i + 1) fs) ≡ whole
  refused_more f ys is e =
      let r : RefusedStep = record { line = i + FIRST_STEP; refusal = f } in
      ap (λ l. l ++ refused_from (i + 1 + FIRST_STEP) (drop (i + 1) fs)) e ∙ append_assoc xs (r ∷ []) (refused_from (i + 1 + FIRST_STEP) (drop (i + 1) fs))
      ∙ ap (λ k. xs ++ r ∷ refused_from k (drop (i + 1) fs)) (sym line_after) ∙ outcome_first (Some f) is

-- ---- sights
pub one_more_sight :
    {S L : Type 0} (R : Behaviour S L) (w : World S L) (p : ℕ) (before after : List Sight) (s : Sight) →
    before ≡ sights R w p → s ≡ sight_of R w p → after ≡ before ++ s ∷ [] → after ≡ sights R w (p + 1)
one_more_sight R w p before after s e f h =
    h ∙ ap (λ l. l ++ s ∷ []) e ∙ ap (λ x. sights R w p ++ x ∷ []) f ∙ sym (tabulate_more p (sight_of R w)) ∙ ap (sights R w) (sym (add-one p))
