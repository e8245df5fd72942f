-- One step of a list of calls, and the next.
use Rattle.std.proofs.Common.{◌≡◌, ℕ, suc, ◌+◌, ◌<◌, ◌≤◌, List, [], ◌∷◌, length, get_or, drop, set, Option, Result, sym, ap, ◌∙◌, add-one}
use Rattle.std.specs.Result.{result_err}
use Rattle.std.proofs.lemmas.List.{at_drop_more, at_drop_all}
use Rattle.rules.specs.Rule.{Behaviour}
use Rattle.lists.specs.Lists.{put}
use Rattle.protocol.specs.declared.refusal.Refusal.{Refusal}
use Rattle.protocol.specs.declared.types.Step.{Step}
use Rattle.protocol.specs.World.{World}
use Rattle.shed_core.specs.Of.{ComesTo}
use Rattle.protocol.specs.Steps.{step, after, refusals}

-- a step comes to what its call comes to
pub stepped :
    {A S L : Type 0} (R : Behaviour S L) (w : World S L) (given call : Step)
    (o : Result A Refusal × World S L) {r : Result A Refusal} {v : World S L} {x : Option Refusal} →
    given ≡ call → step R w call ≡ (result_err o.0, o.1) → ComesTo r v o → x ≡ result_err r → ComesTo x v (step R w given)
stepped R w given call o same e c f =
    let at : step R w given ≡ (result_err o.0, o.1) = ap (step R w) same ∙ e in
    record {
      answers = f ∙ ap result_err c.answers ∙ sym (ap (λ y. y.0) at);
      leaves = c.leaves ∙ sym (ap (λ y. y.1) at);
    }

module _ {S L : Type 0} (R : Behaviour S L) (w v : World S L) (calls : List Step) (i : ℕ) (d : Step) (h : i < length calls)
    (o x : Option Refusal) (came : ComesTo o v (step R w (get_or calls i d))) (same : x ≡ o) (xs ys : List (Option Refusal)) (wrote : ys ≡ set xs i x) where
  pub after_more : (all : World S L) → after R w (drop i calls) ≡ all → after R v (drop (i + 1) calls) ≡ all
  unfolding after
  after_more all e =
      let more : after R w (drop i calls) ≡ after R (step R w (get_or calls i d)).1 (drop (i + 1) calls) = at_drop_more (after R w) calls i d h in
      ap (λ u. after R u (drop (i + 1) calls)) came.leaves ∙ sym more ∙ e

  pub refusals_more : (told : List (Option Refusal)) → put xs i (refusals R w (drop i calls)) ≡ told → put ys (i + 1) (refusals R v (drop (i + 1) calls)) ≡ told
  unfolding refusals
  refusals_more told e =
      let s = step R w (get_or calls i d) in
      let rest = λ (u : World S L). refusals R u (drop (i + 1) calls) in
      let more : refusals R w (drop i calls) ≡ s.0 ∷ rest s.1 = at_drop_more (refusals R w) calls i d h in
      let first : put xs i (refusals R w (drop i calls)) ≡ put (set xs i s.0) (suc i) (rest s.1) = ap (put xs i) more in
      let now : ys ≡ set xs i s.0 = wrote ∙ ap (set xs i) (same ∙ came.answers) in
      ap (λ j. put ys j (rest v)) (add-one i) ∙
      (ap (λ y. put y (suc i) (rest v)) now ∙ ap (λ u. put (set xs i s.0) (suc i) (rest u)) came.leaves ∙ sym first ∙ e)

-- a list is done
pub after_all : {S L : Type 0} (R : Behaviour S L) (w all : World S L) (calls : List Step) (i : ℕ) → length calls ≤ i → after R w (drop i calls) ≡ all → w ≡ all
unfolding after
after_all R w all calls i h e = let done : after R w (drop i calls) ≡ w = at_drop_all (after R w) calls i h in sym done ∙ e

pub refusals_all :
    {S L : Type 0} (R : Behaviour S L) (w : World S L) (xs told : List (Option Refusal)) (calls : List Step) (i : ℕ) → length calls ≤ i →
    put xs i (refusals R w (drop i calls)) ≡ told → xs ≡ told
unfolding refusals
refusals_all R w xs told calls i h e = let done : refusals R w (drop i calls) ≡ [] = at_drop_all (refusals R w) calls i h in sym (ap (put xs i) done) ∙ e
