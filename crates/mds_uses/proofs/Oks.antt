-- Results of which only the value is asked for.
use Rattle.std.proofs.Common.{◌≡◌, Some, subst}
use Rattle.std.specs.Prelude.{Result, Ok, Err, IfOk}
use Rattle.std.specs.Result.{result_ok}

-- what holds of the value holds of what was asked for
pub of_value : {T E : Type 0} (P : T → Type 0) (r : Result T E) (x : T) → result_ok r ≡ Some x → IfOk r P → P x
of_value P (Ok y) x same is = let equal : y ≡ x = cc in subst P equal is
of_value P (Err error) x same is = absurd (cc same)
