-- Errors that are passed on, and results by their variant.
use Rattle.std.proofs.Common.{◌≡◌, subst, sym, true, false, Result, Ok, Err, IfErr}
use Rattle.std.specs.Prelude.{IsErrAnd, OnOk, OnErr}
use Rattle.std.specs.Result.{is_ok}

-- the error that was passed on is the one that came
pub passed_on : {T E : Type 0} (r : Result T E) (e : E) (P : E → Type 0) → IsErrAnd r (λ y. y ≡ e) → P e → IfErr r P
passed_on (Ok x) e P same p = tt
passed_on (Err y) e P same p = subst P (sym same) p

-- and it is no success
pub no_success : {T E : Type 0} (r : Result T E) (e : E) (P : Type 0) → IsErrAnd r (λ y. y ≡ e) → OnOk r P
no_success (Ok x) e P same = absurd same
no_success (Err y) e P same = tt

-- what holds of a success
pub at_success : {T E : Type 0} (r : Result T E) (P : Type 0) → is_ok r ≡ true → OnOk r P → P
at_success (Ok x) P is holds = holds
at_success (Err y) P is holds = cc

-- what holds of an error
pub at_error : {T E : Type 0} (r : Result T E) (P : Type 0) → is_ok r ≡ false → OnErr r P → P
at_error (Ok x) P is holds = cc
at_error (Err y) P is holds = holds
