-- Where the elements of two lists come from, after one was taken out of both alike.
use Rattle.std.proofs.Common.{◌≡◌, ℕ, ◌-◌, ◌<◌, ◌≤◌, List, length, get_or, set, ◌∙◌, inl, inr, arith}
use Rattle.std.proofs.lemmas.List.{length-set, get_or-set_same, get_or-set_other, get_or-take, length-take-le}
use Rattle.std.proofs.lemmas.Bool.{cases_eq}
use Rattle.frames.specs.Pool.{take_out}
use Rattle.protocol.specs.Tally.{swap_out}

module _ {A B : Type 0} (a : A) (b : B) (xs : List A) (ys : List B) (c k : ℕ) (ex : length xs ≡ c) (ey : c ≤ length ys) (h : k < c) where
  pub length_out : length (swap_out a xs k) ≡ c - 1
  length_out = rw ex (length-take-le (c - 1) (set xs k (get_or xs (c - 1) a)) (simp length-set (omega arith)))

  pub record Origin (i : ℕ) : Type 0 where
    pub place : ℕ
    pub within : place < c
    pub left : get_or (swap_out a xs k) i a ≡ get_or xs place a
    pub right : get_or (take_out b ys c k) i b ≡ get_or ys place b

  pub origin : (i : ℕ) → i < c - 1 → Origin i
  unfolding take_out
  origin i l = elim (cases_eq i k) [
    | inl e ↦ record {
      place = c - 1;
      within = omega arith;
      left = rw (e, ex) (get_or-take (c - 1) (set xs k (get_or xs (c - 1) a)) k a (omega arith) ∙ get_or-set_same xs k (get_or xs (c - 1) a) a (omega arith));
      right = rw e (get_or-set_other (set ys k (get_or ys (c - 1) b)) (c - 1) k b b (omega arith) ∙ get_or-set_same ys k (get_or ys (c - 1) b) b (omega arith));
    }
    | inr e ↦ record {
      place = i;
      within = omega arith;
      left = rw ex (get_or-take (c - 1) (set xs k (get_or xs (c - 1) a)) i a l ∙ get_or-set_other xs k i (get_or xs (c - 1) a) a e);
      right = get_or-set_other (set ys k (get_or ys (c - 1) b)) (c - 1) i b b (omega arith) ∙ get_or-set_other ys k i (get_or ys (c - 1) b) b e;
    }
  ]
