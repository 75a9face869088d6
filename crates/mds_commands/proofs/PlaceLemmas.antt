-- Where a list ends.
use Rattle.std.proofs.Common.{◌≡◌, ℕ, zero, suc, ◌≤◌, List, [], ◌∷◌, length, None, slice_get, arith}

-- where a list has no item, it has ended
pub none_behind : {X : Type 0} (xs : List X) (i : ℕ) → None ≡ slice_get xs i → length xs ≤ i
none_behind [] i none = omega arith
none_behind (x ∷ xs) zero none = absurd cc
none_behind (x ∷ xs) (suc i) none = omega (arith, none_behind xs i none)
