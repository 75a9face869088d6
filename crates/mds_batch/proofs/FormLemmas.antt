-- What callees promise of a form, as the definition of the form says it.
use Rattle.std.proofs.Common.{◌≡◌, ◌↔◌, true, false, Option, Some, None, Result, Ok, Err, IsOk, IfOk, refl}
use Rattle.std.specs.Result.{result_ok}

-- what was parsed, where something could be parsed
pub result_ok-is : {A E : Type 0} (r : Result A E) (o : Option A) → (IsOk r ↔ ((x : A) × (o ≡ Some x))) → IfOk r (λ x. Some x ≡ o) → result_ok r ≡ o
result_ok-is (Ok x) o exact value = value
result_ok-is (Err e) None exact value = refl
result_ok-is (Err e) (Some x) exact value = let no : false ≡ true = exact.1 (x, refl) in cc
