-- Two lists, place by place.
use Rattle.std.proofs.Common.{◌≡◌, ◌<◌, ℕ, suc, List, [], ◌∷◌, length, slice_index_or, arith}
use Rattle.std.specs.List.{AllZip}

-- what holds of the elements at each place holds of the lists
pub zip_by_place : {X : Type 0} (R : X → X → Type 0) (xs ys : List X) → length ys ≡ length xs
    → ((i : ℕ) (d : X) → i < length xs → R (slice_index_or xs i d) (slice_index_or ys i d)) → AllZip R xs ys
zip_by_place R [] [] same each = tt
zip_by_place R [] (y ∷ ys) same each = absurd (omega (arith, same))
zip_by_place R (x ∷ xs) [] same each = absurd (omega (arith, same))
zip_by_place R (x ∷ xs) (y ∷ ys) same each =
    (each 0 x (omega arith), zip_by_place R xs ys (omega (arith, same)) (λ i d within. each (suc i) d (omega (arith, within))))
