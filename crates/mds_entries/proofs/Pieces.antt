-- Texts that are laid out piece by piece.
use Rattle.std.proofs.Common.{◌≡◌, List, ℕ, Result, Ok, Err, OnOk, is_ok, if◌then◌else◌}

-- the last piece is added where there is room for it
pub with_last : {T E : Type 0} (result : Result T E) (whole front wanted : List ℕ) → whole ≡ wanted → OnOk result ((if is_ok result then whole else front) ≡ wanted)
with_last (Ok value) whole front wanted is = is
with_last (Err fault) whole front wanted is = tt
