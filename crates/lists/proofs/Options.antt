-- What a test, an equation between options, or one of a `cond` with an option, tells.
use Rattle.std.proofs.Common.{◌≡◌, Bool, true, false, cond, T, Some, None, Option, sym, refl}
use Rattle.std.proofs.lemmas.Option.{none-some}

pub holds : (b : Bool) → T b → b ≡ true
holds true t = refl
holds false t = absurd t

pub none_some : {X : Type 0} {A : Type 0} {a : A} → ◌≡◌ {A = Option A} None (Some a) → X
none_some e = absurd (none-some _ e)

pub same_some : {A : Type 0} {a b : A} → Some a ≡ Some b → a ≡ b
same_some e = cc

-- an option that is no Some is None
pub no_some : {A : Type 0} (o : Option A) → ((a : A) → o ≡ Some a → ⊥) → o ≡ None
no_some None none = refl
no_some (Some a) none = absurd (none a refl)

-- there is something only where the test holds
pub only : {A : Type 0} (t : Bool) (y : Option A) (a : A) → cond t y None ≡ Some a → (t ≡ true) × (y ≡ Some a)
only true y a e = (refl, e)
only false y a e = none_some e

-- there is something only where the test fails
pub unless : {A : Type 0} (t : Bool) (y : Option A) (a : A) → cond t None y ≡ Some a → (t ≡ false) × (y ≡ Some a)
unless true y a e = none_some e
unless false y a e = (refl, e)

-- the first of an ordered list of refusals was passed: its test failed, and so did the rest
pub passed : {A : Type 0} (t : Bool) (a : A) (rest : Option A) → cond t (Some a) rest ≡ None → (t ≡ false) × (rest ≡ None)
passed true a rest e = none_some (sym e)
passed false a rest e = (refl, e)
