-- A new shed that is opened, and then carries out its steps.
use Rattle.std.proofs.Common.{◌≡◌, ℕ, Bool, ◌^◌, ◌<◌, List, length, get_or, Ok, Err, Option, Result, sym, refl, ap, ◌∙◌, subst}
use Rattle.rules.specs.Rule.{Behaviour, Interface, Laws, Ranges}
use Rattle.lists.specs.Lists.{put}
use Rattle.shed_core.specs.declared.shed.Shed.{Shed}
use Rattle.shed_core.specs.declared.buffers.Buffers.{Buffers}
use Rattle.protocol.specs.declared.refusal.Refusal.{Refusal}
use Rattle.protocol.specs.declared.types.Step.{Step}
use Rattle.shed_core.specs.Of.{world_of, shut_with, ComesTo, IsNew}
use Rattle.protocol.specs.Steps.{after, refusals}
use Rattle.protocol.specs.Calls.{open_refusal, open_call, opened}
use Rattle.conduct.specs.Conduct.{CarriedOut, Conducted}
use Rattle.protocol.proofs.Outcomes.{attempt_laws}
use Rattle.protocol.proofs.Guaranteed.{guaranteed}

module _ {S L : Type 0} (R : Behaviour S L) (values : List ℕ) (steps : List Step)
    (fresh s : Shed) (b b' : Buffers S L) (new : IsNew fresh) (r : Result ℕ Refusal)
    (opening : ComesTo r (world_of s b') (open_call R (world_of fresh b) values)) where
  is_shut : world_of fresh b ≡ shut_with b
  is_shut = rw (new.shut, new.no_pool, new.no_book, new.no_frames, new.no_entries, new.blanks) refl

  call : ComesTo r (world_of s b') (open_call R (shut_with b) values)
  call = subst (λ w. ComesTo r (world_of s b') (open_call R w values)) is_shut opening

  -- a refused opening leaves everything as it was
  pub halted : (f : Refusal) (outcomes : List (Option Refusal)) → r ≡ Err f → Conducted R values steps (shut_with b) outcomes (Err f) b' outcomes
  halted f outcomes e =
      let d = (attempt_laws (shut_with b) (opened R (shut_with b) values) (length values)).refused (open_refusal R (shut_with b) values) f
      (sym e ∙ call.answers) in
      let same : world_of s b' ≡ shut_with b = call.leaves ∙ d.1 in
      record {
        because = d.0;
        untouched = record {
          same_states = ap (λ w. w.states) same;
          same_letters = ap (λ w. w.letters) same;
          same_pool = ap (λ w. w.pool) same;
          same_book = ap (λ w. w.book) same;
        };
        untold = refl;
      }

  -- an accepted one begins the run
  pub carried_out :
      {letter_fits : L → Bool} → Interface R → Laws R letter_fits → Ranges R letter_fits → ((p : ℕ) → p < length values → get_or values p 0 < 2 ^ 16) →
      (y : ℕ) (t : Shed) (left : Buffers S L) (blank told : List (Option Refusal)) → r ≡ Ok y →
      world_of t left ≡ after R (world_of s b') steps → told ≡ put blank 0 (refusals R (world_of s b') steps) →
      CarriedOut R values steps (shut_with b) blank t left told
  carried_out {letter_fits} face laws ranges small y t left blank told e ends tells =
      let d = (attempt_laws (shut_with b) (opened R (shut_with b) values) (length values)).accepted (open_refusal R (shut_with b) values) y
      (sym e ∙ call.answers) in
      let first = opened R (shut_with b) values in
      let same : world_of s b' ≡ first = call.leaves ∙ d.2 in
      record {
        opens = d.0;
        leaves = ends ∙ ap (λ w. after R w steps) same;
        tells = tells ∙ ap (λ w. put blank 0 (refusals R w steps)) same;
        guaranteed = guaranteed R letter_fits face laws ranges (shut_with b) values small d.0 steps;
      }
