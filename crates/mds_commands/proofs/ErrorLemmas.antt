-- Errors that are passed on.
use Rattle.std.proofs.Common.{◌≡◌, ◌≢◌, refl, subst, sym, Result, Ok, Err, IfErr}
use Rattle.std.specs.Prelude.{IsErrAnd}
use Rattle.mds_io.specs.declared.read.ReadError.{ReadError}
use Rattle.mds_io.specs.declared.read.ReadError.TheVariants.{Memory, Device, TooManyTurns}

-- reading failed for want of memory, or otherwise
pub wanted_or_not : {P : Type 0} (error : ReadError) → (error ≡ Memory → P) → (error ≢ Memory → P) → P
wanted_or_not Memory wanted not = wanted refl
wanted_or_not Device wanted not = not (λ same. cc)
wanted_or_not TooManyTurns wanted not = not (λ same. cc)

-- the error that was passed on is the one that came
pub passed_on : {T E : Type 0} (r : Result T E) (e : E) (P : E → Type 0) → IsErrAnd r (λ y. y ≡ e) → P e → IfErr r P
passed_on (Ok x) e P same p = tt
passed_on (Err y) e P same p = subst P (sym same) p
