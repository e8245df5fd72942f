-- What is known of a result, and of what `ok` and `ok_or` make.
use Rattle.std.proofs.Common.{◌≡◌, Some, None, Ok, Err, Option, Result, is_some, true, refl, arith}
use Rattle.std.specs.Option.{ok_or}
use Rattle.std.specs.Result.{MatchResult, result_ok}
use Rattle.lists.proofs.Options.{none_some}

-- no result is both
pub ok_err : {A E : Type 0} {x : A} {e : E} → Err e ≡ Ok x → ⊥
ok_err h = grind arith

pub some_is : {A : Type 0} (o : Option A) → is_some o ≡ true → (x : A) × (o ≡ Some x)
some_is None h = grind arith
some_is (Some x) h = (x, refl)

-- where `ok_or` gave the error there was nothing, and where it gave a value, that was there
pub ok_or_error : {A E : Type 0} (o : Option A) (e f : E) → Err f ≡ ok_or o e → (o ≡ None) × (e ≡ f)
ok_or_error None e f h = (refl, cc)
ok_or_error (Some x) e f h = grind arith

pub ok_or_value : {A E : Type 0} (o : Option A) (e : E) (x : A) → Ok x ≡ ok_or o e → Some x ≡ o
ok_or_value None e x h = cc
ok_or_value (Some y) e x h = cc

-- where `ok` gave nothing there was an error
pub ok_dropped : {A E : Type 0} (P : A → Type 0) (Q : E → Type 0) (r : Result A E) → MatchResult r P Q → None ≡ result_ok r → (e : E) × Q e
ok_dropped P Q (Ok x) h e = none_some e
ok_dropped P Q (Err x) h e = (x, h)
