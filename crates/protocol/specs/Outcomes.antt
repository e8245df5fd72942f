-- What is known of tests in their order, and of an attempt.
use Rattle.std.specs.Prelude.{◌≡◌, ℕ, Bool, false, List, ◌++◌, Some, None, Ok, Err, Option, slice_index_or}
use Rattle.protocol.specs.declared.refusal.Refusal.{Refusal}
use Rattle.protocol.specs.declared.refusal.Refusal.TheVariants.{Shut}
use Rattle.protocol.specs.Refusals.{first_refusal, attempt}

pub record TestLaws : Type 0 where
  -- where nothing is refused, the test at each place fails
  pub none_holds : (tests : List (Bool × Refusal)) → first_refusal tests ≡ None → (i : ℕ) → (slice_index_or tests i (false, Shut)).0 ≡ false
  -- what the first tests refuse is refused by all, and for the same reason
  pub refused_first : (tests more : List (Bool × Refusal)) (f : Refusal) → first_refusal tests ≡ Some f → first_refusal (tests ++ more) ≡ Some f

-- an attempt at the answer a, which leaves v in the place of w
pub record AttemptLaws {A W : Type 0} (w v : W) (a : A) : Type 0 where
  -- where it has an answer nothing was refused, the answer is a and v is left
  pub accepted : (o : Option Refusal) (x : A) → Ok x ≡ (attempt w o a v).0 → (o ≡ None) × (x ≡ a) × ((attempt w o a v).1 ≡ v)
  -- where it has a refusal that is why it was refused, and w is left
  pub refused : (o : Option Refusal) (f : Refusal) → Err f ≡ (attempt w o a v).0 → (o ≡ Some f) × ((attempt w o a v).1 ≡ w)
