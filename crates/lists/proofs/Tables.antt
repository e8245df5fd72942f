-- Lists made from a function, and cells that are written one after another.
use Rattle.std.proofs.Common.{◌≡◌, ℕ, zero, suc, ◌+◌, ◌<◌, ◌≤◌, List, [], ◌∷◌, ◌++◌, length, get_or, take, drop, set, replicate, Some, None, Option}
use Rattle.std.proofs.Common.{sym, refl, ap, ◌∙◌, subst, add-one, arith}
use Rattle.std.proofs.lemmas.List.{length-set, get_or-set_same, get_or-set_other, set_past, take_at, drop_at, get_or_append_left}
use Rattle.lists.specs.Lists.{tabulate, written, put}
use Rattle.lists.proofs.Options.{none_some}

module _ {A : Type 0} where
  -- ---- tabulate
  pub length_tabulate : (n : ℕ) (f : ℕ → A) → length (tabulate n f) ≡ n
  length_tabulate zero f = refl
  length_tabulate (suc n) f = ap suc (length_tabulate n (λ k. f (suc k)))

  pub get_or_tabulate : (n : ℕ) (f : ℕ → A) (i : ℕ) (d : A) → i < n → get_or (tabulate n f) i d ≡ f i
  get_or_tabulate zero f i d h = absurd (omega arith)
  get_or_tabulate (suc n) f zero d h = refl
  get_or_tabulate (suc n) f (suc i) d h = get_or_tabulate n (λ k. f (suc k)) i d (omega arith)

  pub tabulate_same : (n : ℕ) (f g : ℕ → A) → ((i : ℕ) → i < n → f i ≡ g i) → tabulate n f ≡ tabulate n g
  tabulate_same zero f g e = refl
  tabulate_same (suc n) f g e = cc (e 0 (omega arith), tabulate_same n (λ k. f (suc k)) (λ k. g (suc k)) (λ i h. e (suc i) (omega arith)))

  pub tabulate_more : (n : ℕ) (f : ℕ → A) → tabulate (suc n) f ≡ tabulate n f ++ f n ∷ []
  tabulate_more zero f = refl
  tabulate_more (suc n) f = ap (λ ys. f 0 ∷ ys) (tabulate_more n (λ k. f (suc k)))

  -- one place of a table is written
  pub tabulate_set : (n : ℕ) (f g : ℕ → A) (i : ℕ) (v : A) → i < n → g i ≡ v → ((p : ℕ) → p < n → (p ≡ i → ⊥) → g p ≡ f p) →
      set (tabulate n f) i v ≡ tabulate n g
  tabulate_set zero f g i v h here there = absurd (omega arith)
  tabulate_set (suc n) f g zero v h here there =
      cc (tabulate_same n (λ k. f (suc k)) (λ k. g (suc k)) (λ p l. sym (there (suc p) (omega arith) (λ e. omega arith))))
  tabulate_set (suc n) f g (suc i) v h here there =
      cc (
        there 0 (omega arith) (λ e. omega arith),
        tabulate_set n (λ k. f (suc k)) (λ k. g (suc k)) i v (omega arith) here (λ p l e. there (suc p) (omega arith) (λ z. e (omega arith))),
      )

  -- ---- one value at every place
  pub get_or_replicate_all : (m i : ℕ) (a : A) → get_or (replicate m a) i a ≡ a
  get_or_replicate_all zero i a = refl
  get_or_replicate_all (suc m) zero a = refl
  get_or_replicate_all (suc m) (suc i) a = get_or_replicate_all m i a

  -- ---- written: the cells from the first on
  written_suc : (i : ℕ) (f : ℕ → A) (xs : List A) (v : A) → i < length xs → v ≡ f i → set (written i f xs) i v ≡ written (suc i) f xs
  written_suc zero f [] v h e = absurd (omega arith)
  written_suc zero f (x ∷ xs) v h e = ap (λ y. y ∷ xs) e
  written_suc (suc i) f [] v h e = absurd (omega arith)
  written_suc (suc i) f (x ∷ xs) v h e = ap (λ ys. f 0 ∷ ys) (written_suc i (λ k. f (suc k)) xs v (omega arith) e)

  -- a loop's step: one cell more
  pub written_more : (i : ℕ) (f : ℕ → A) (xs ys : List A) (v : A) → ys ≡ written i f xs → i < length xs → v ≡ f i → set ys i v ≡ written (i + 1) f xs
  written_more i f xs ys v e h here = ap (λ zs. set zs i v) e ∙ rw add-one (written_suc i f xs v h here)

  -- the cells that were written
  pub take_written : (n : ℕ) (f : ℕ → A) (xs : List A) → take n (written n f xs) ≡ tabulate n f
  take_written n f xs = take_at (tabulate n f) (drop n xs) n (length_tabulate n f)

  pub get_or_written : (n : ℕ) (f : ℕ → A) (xs : List A) (i : ℕ) (d : A) → i < n → get_or (written n f xs) i d ≡ f i
  get_or_written n f xs i d h =
      let within : i < length (tabulate n f) = rw (length_tabulate n f) h in
      get_or_append_left (tabulate n f) (drop n xs) d i within ∙ get_or_tabulate n f i d h

  -- the cells that were not
  pub drop_written : (n : ℕ) (f : ℕ → A) (xs : List A) → drop n (written n f xs) ≡ drop n xs
  drop_written n f xs = drop_at (tabulate n f) (drop n xs) n (length_tabulate n f)

  -- ---- put: the cells from a place on
  pub length_put : (ys xs : List A) (c : ℕ) → length (put xs c ys) ≡ length xs
  length_put [] xs c = refl
  length_put (y ∷ ys) xs c = length_put ys (set xs c y) (suc c) ∙ length-set xs c y

  pub get_or_put_below : (ys xs : List A) (c i : ℕ) (d : A) → i < c → get_or (put xs c ys) i d ≡ get_or xs i d
  get_or_put_below [] xs c i d h = refl
  get_or_put_below (y ∷ ys) xs c i d h = get_or_put_below ys (set xs c y) (suc c) i d (omega arith) ∙ get_or-set_other xs c i y d (omega arith)

  pub get_or_put_in : (ys xs : List A) (c i : ℕ) (d : A) → i < length ys → c + length ys ≤ length xs → get_or (put xs c ys) (c + i) d ≡ get_or ys i d
  get_or_put_in [] xs c i d h l = absurd (omega arith)
  get_or_put_in (y ∷ ys) xs c zero d h l =
      let e : c + 0 ≡ c = omega arith in
      rw e (get_or_put_below ys (set xs c y) (suc c) c d (omega arith) ∙ get_or-set_same xs c y d (omega arith))
  get_or_put_in (y ∷ ys) xs c (suc i) d h l =
      let e : c + suc i ≡ suc c + i = omega arith in
      rw e (get_or_put_in ys (set xs c y) (suc c) i d (omega arith) (simp length-set (omega arith)))

  pub put_more : (ys xs : List A) (c : ℕ) (y : A) → put xs c (ys ++ y ∷ []) ≡ set (put xs c ys) (c + length ys) y
  put_more [] xs c y = let e : c + 0 ≡ c = omega arith in rw e
  put_more (z ∷ ys) xs c y = let e : c + suc (length ys) ≡ suc c + length ys = omega arith in rw e (put_more ys (set xs c z) (suc c) y)

  -- nothing is written past the end
  pub put_past : (ys xs : List A) (c : ℕ) → length xs ≤ c → put xs c ys ≡ xs
  put_past [] xs c h = refl
  put_past (y ∷ ys) xs c h = ap (λ z. put z (suc c) ys) (set_past xs c y h) ∙ put_past ys xs (suc c) (omega arith)

  put_cons : (ys xs : List A) (x : A) (c : ℕ) → put (x ∷ xs) (suc c) ys ≡ x ∷ put xs c ys
  put_cons [] xs x c = refl
  put_cons (y ∷ ys) xs x c = put_cons ys (set xs c y) x (suc c)

  -- a list is put over another of its length
  pub put_whole : (xs ys : List A) → length xs ≡ length ys → put xs 0 ys ≡ ys
  put_whole [] [] e = refl
  put_whole [] (y ∷ ys) e = absurd (omega arith)
  put_whole (x ∷ xs) [] e = absurd (omega arith)
  put_whole (x ∷ xs) (y ∷ ys) e = put_cons ys xs y 0 ∙ ap (λ zs. y ∷ zs) (put_whole xs ys (omega arith))

  -- a table is put one cell after another; what would lie past the end is lost
  pub put_table_more : (i : ℕ) (f : ℕ → A) (xs ys : List A) (v : A) → ys ≡ put xs 0 (tabulate i f) → v ≡ f i → set ys i v ≡ put xs 0 (tabulate (i + 1) f)
  put_table_more i f xs ys v e here =
      let place : 0 + length (tabulate i f) ≡ i = omega (arith, length_tabulate i f) in
      rw (add-one i, tabulate_more i f)
      (ap (λ zs. set zs i v) e ∙ ap (set (put xs 0 (tabulate i f)) i) here
      ∙ sym (put_more (tabulate i f) xs 0 (f i) ∙ ap (λ j. set (put xs 0 (tabulate i f)) j (f i)) place))

  -- a table that fits is written
  pub put_table : (n : ℕ) (f : ℕ → A) (xs : List A) → n ≤ length xs → put xs 0 (tabulate n f) ≡ written n f xs
  put_table zero f xs h = refl
  put_table (suc n) f xs h =
      let more : put xs 0 (tabulate (n + 1) f) ≡ written (n + 1) f xs =
      sym (put_table_more n f xs (put xs 0 (tabulate n f)) (f n) refl refl)
      ∙ written_more n f xs (put xs 0 (tabulate n f)) (f n) (put_table n f xs (omega arith)) (omega arith) refl in
      subst (λ m. put xs 0 (tabulate m f) ≡ written m f xs) (add-one n) more

-- what stands in a table of options stands at a place of it
pub at_tabulate : {A : Type 0} (n : ℕ) (f : ℕ → Option A) (q : ℕ) (a : A) → get_or (tabulate n f) q None ≡ Some a → (q < n) × (f q ≡ Some a)
at_tabulate zero f q a e = none_some e
at_tabulate (suc n) f zero a e = (omega arith, e)
at_tabulate (suc n) f (suc q) a e = let r = at_tabulate n (λ k. f (suc k)) q a e in (omega (arith, r.0), r.1)
