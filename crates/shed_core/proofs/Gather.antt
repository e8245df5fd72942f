-- A station's frames, one receiver after another.
use Rattle.std.proofs.Common.{◌≡◌, ℕ, suc, ◌+◌, ◌-◌, ◌<◌, List, [], ◌∷◌, ◌++◌, Some, None, Option, sym, ap, ◌∙◌, add-one, arith}
use Rattle.std.proofs.lemmas.List.{append_assoc}
use Rattle.rules.specs.Rule.{Behaviour}
use Rattle.frames.specs.Frame.{frame_word}
use Rattle.protocol.specs.Calls.{frames_from}

module _ {S L : Type 0} (R : Behaviour S L) (n p k : ℕ) (s : S) (q : ℕ) (h : q < n) where
  abbrev rest : List ℕ
  rest = frames_from R n p k s (q + 1) (n - (q + 1))

  abbrev with_letter : Option L → List ℕ
  with_letter o = elim o [ None ↦ rest | Some l ↦ frame_word R (p, q, k, l) ∷ rest ]

  more : frames_from R n p k s q (n - q) ≡ with_letter (R.letter n p k s q)
  more =
      let e : n - q ≡ suc (n - (q + 1)) = omega arith in
      ap (frames_from R n p k s q) e
      ∙ ap (λ x. elim (R.letter n p k s q) [
        | None ↦ frames_from R n p k s x (n - (q + 1))
        | Some l ↦ frame_word R (p, q, k, l) ∷ frames_from R n p k s x
            (n - (q + 1))
      ]) (sym (add-one q))

  module _ (words all : List ℕ) (before : words ++ frames_from R n p k s q (n - q) ≡ all) where
    pub none_more : R.letter n p k s q ≡ None → words ++ rest ≡ all
    none_more e = ap (λ ws. words ++ ws) (sym (more ∙ ap with_letter e)) ∙ before

    pub some_more : (l : L) (w : ℕ) → R.letter n p k s q ≡ Some l → w ≡ frame_word R (p, q, k, l) → (words ++ w ∷ []) ++ rest ≡ all
    some_more l w e f = rw append_assoc (ap (λ x. words ++ (x ∷ rest)) f ∙ ap (λ ws. words ++ ws) (sym (more ∙ ap with_letter e)) ∙ before)
