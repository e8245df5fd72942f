-- Words written over a part of a pool are put there one after another.
use Rattle.std.proofs.Common.{◌≡◌, ℕ, suc, ◌+◌, ◌<◌, ◌≤◌, List, [], ◌∷◌, ◌++◌, length, take, drop, set, refl, arith, length-set, drop-cons}
use Rattle.std.proofs.Math.Seq.{append_snoc, take-suc-set}
use Rattle.std.proofs.lemmas.List.{take-append-drop, drop-set-lt}
use Rattle.lists.specs.Lists.{put}

pub put_part : {A : Type 0} (xs ys : List A) (c k : ℕ) → k ≡ length ys → c + length ys ≤ length xs → take c xs ++ (ys ++ drop k (drop c xs)) ≡ put xs c ys
put_part xs [] c k e h = rw e (take-append-drop c xs)
put_part xs (y ∷ ys) c k e h =
    let within : c < length xs = omega arith in
    let more = put_part (set xs c y) ys (suc c) (length ys) refl (simp length-set (omega arith)) in
    rw (
      e,
      drop-cons xs c y within,
      ← append_snoc (take c xs) y (ys ++ drop (length ys) (drop (suc c) xs)),
      ← take-suc-set xs c y within,
      ← drop-set-lt (suc c) xs c y (omega arith),
    ) more
