-- An array that a closure makes place by place is a table.
use denote.Param.Members.{Mut}
use Rattle.std.proofs.Common.{◌≡◌, ℕ, zero, suc, ◌+◌, ◌<◌, ◌≤◌, cond, ltb, List, length, get_or, take, ap, sym, refl, subst, ◌∙◌, inl, inr, arith}
use Rattle.std.specs.Array.{IsFromFnResult, IsFromFnResultFrom}
use Rattle.std.specs.Fn.{Called}
use Rattle.std.proofs.lemmas.Bool.{cases_eq, lt-ltb, cond-true}
use Rattle.std.proofs.lemmas.List.{ext_get_or}
use Rattle.lists.specs.Lists.{tabulate}
use Rattle.lists.proofs.Tables.{length_tabulate, get_or_tabulate}

table_from : {A : Type 0} (n : ℕ) (h : ℕ → A) (ys : List A) → length ys ≡ n → ((i : ℕ) → i < n → get_or ys i (h 0) ≡ h i) → ys ≡ tabulate n h
table_from n h ys long each = ext_get_or (h 0) ys (tabulate n h) (long ∙ sym (length_tabulate n h))
    (λ i l. let below : i < n = omega (arith, long) in each i below ∙ sym (get_or_tabulate n h i (h 0) below))

-- each call leaves the closure as it was, and answers h at its place
module _ {F A : Type 0} (g : Mut F (ℕ × Unit {0}) A) (f : F) (n : ℕ) (h : ℕ → A)
    (answers : (i : ℕ) (y : A) (q : F) → i < n → Called g f (i, tt) y q → (y ≡ h i) × (q ≡ f)) where
  made_from : (m i : ℕ) (ys : List A) → i + m ≡ n → IsFromFnResultFrom g f ys i m → (k : ℕ) (d : A) → i ≤ k → k < n → get_or ys k d ≡ h k
  made_from zero i ys e made k d low high = absurd (omega arith)
  made_from (suc m) i ys e made k d low high =
      let call = answers i made.1 made.0 (omega arith) made.3 in
      elim (cases_eq i k) [
        | inl here ↦ subst (λ j. get_or ys j d ≡ h j) here (made.2.1 d ∙ call.0)
        | inr apart ↦ made_from m (i + 1) ys (omega arith) (subst (λ p. IsFromFnResultFrom g p ys (i + 1) m) call.1 made.4) k d (omega arith) high
      ]

  pub made_table : (ys : List A) → IsFromFnResult g f ys n → ys ≡ tabulate n h
  made_table ys made = table_from n h ys made.long (λ i l. made_from n 0 ys (omega arith) made.each i (h 0) (omega arith) l)

-- the first places of a table
take_table : {A : Type 0} (n m : ℕ) (h f : ℕ → A) → n ≤ m → ((i : ℕ) → i < n → h i ≡ f i) → take n (tabulate m h) ≡ tabulate n f
take_table zero m h f few same = refl
take_table (suc n) zero h f few same = absurd (omega arith)
take_table (suc n) (suc m) h f few same =
    let first : h 0 ≡ f 0 = same 0 (omega arith) in
    let rest : take n (tabulate m (λ k. h (suc k))) ≡ tabulate n (λ k. f (suc k)) =
    take_table n m (λ k. h (suc k)) (λ k. f (suc k)) (omega arith) (λ i l. same (suc i) (omega arith)) in
    cc

-- each call answers f of its place below n, and d from n on: the first n places are f's
pub made_part :
    {F A : Type 0} (g : Mut F (ℕ × Unit {0}) A) (closure : F) (m n : ℕ) (f : ℕ → A) (d : A) →
    ((i : ℕ) (y : A) (q : F) → i < m → Called g closure (i, tt) y q → (y ≡ cond (ltb i n) (f i) d) × (q ≡ closure)) → n ≤ m →
    (ys : List A) → IsFromFnResult g closure ys m → take n ys ≡ tabulate n f
made_part g closure m n f d answers few ys made =
    ap (take n) (made_table g closure m (λ i. cond (ltb i n) (f i) d) answers ys made)
    ∙ take_table n m (λ i. cond (ltb i n) (f i) d) f few (λ i l. cond-true (ltb i n) (f i) d (lt-ltb i n l))
