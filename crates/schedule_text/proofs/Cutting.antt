-- The pieces of a text, as `split` yields them and by where the first ends.
use Rattle.std.proofs.Common.{◌≡◌, ℕ, suc, ◌+◌, ◌==◌, Bool, true, false, cond, not, eqb, ltb, List, [], ◌∷◌, length, take, drop, Some, None, Option}
use Rattle.std.proofs.Common.{inl, inr, refl, ap, ◌∙◌, arith}
use Rattle.std.specs.List.{position, position_or_len, slice_split, onto_first as by_std}
use Rattle.std.proofs.lemmas.Bool.{cases_Bool, ltb-true, ltb-false, lt-ltb, le-ltb}
use Rattle.schedule_text.specs.Reading.{onto_first, pieces}

-- the pieces are what `split` yields
pub split_is : (mark : ℕ) (bs : List ℕ) → slice_split (λ b. b == mark) bs ≡ pieces mark bs
unfolding pieces
split_is mark [] = refl
split_is mark (b ∷ bs) = ap (λ l. cond (eqb b mark) ([] ∷ l) (by_std b l)) (split_is mark bs)
    ∙ ap (cond (eqb b mark) ([] ∷ pieces mark bs)) (onto_same (pieces mark bs))
  where
    onto_same : (l : List (List ℕ)) → by_std b l ≡ onto_first b l
    onto_same [] = refl
    onto_same (p ∷ ps) = refl

-- the pieces of a text by where its first mark stands
abbrev pub cut_at : ℕ → List ℕ → Option ℕ → List (List ℕ)
cut_at mark bs None = bs ∷ []
cut_at mark bs (Some i) = take i bs ∷ pieces mark (drop (i + 1) bs)

pub first_cut : (mark : ℕ) (bs : List ℕ) → pieces mark bs ≡ cut_at mark bs (position (λ b. b == mark) bs)
unfolding pieces
first_cut mark [] = refl
first_cut mark (b ∷ bs) = by_first_byte (eqb b mark) (position_or_len (λ b. b == mark) bs) (first_cut mark bs)
  where
    by_first_byte : (t : Bool) (n : ℕ) → pieces mark bs ≡ cut_at mark bs (cond (ltb n (length bs)) (Some n) None) →
        cond t ([] ∷ pieces mark bs) (onto_first b (pieces mark bs)) ≡ cut_at mark (b ∷ bs)
        (cond (ltb (cond (not t) (1 + n) 0) (suc (length bs))) (Some (cond (not t) (1 + n) 0)) None)
    by_first_byte true n e = let first : ltb 0 (suc (length bs)) ≡ true = lt-ltb 0 (suc (length bs)) (omega arith) in rw first
    by_first_byte false n e =
        let one : 1 + n ≡ suc n = omega arith in
        let next : n + 1 ≡ suc n = omega arith in
        let later : suc n + 1 ≡ suc (suc n) = omega arith in
        elim (cases_Bool (ltb n (length bs))) [
          | inl t ↦ let more : ltb (suc n) (suc (length bs)) ≡ true =
              lt-ltb (suc n) (suc (length bs)) (omega (arith, ltb-true n (length bs) t)) in rw (e, one, t, more, next, later)
          | inr f ↦ let more : ltb (suc n) (suc (length bs)) ≡ false =
              le-ltb (suc n) (suc (length bs)) (omega (arith, ltb-false n (length bs) f)) in rw (e, one, f, more)
        ]
