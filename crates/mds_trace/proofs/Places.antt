-- Lists place by place.
use Rattle.std.proofs.Common.{◌≡◌, ◌⊎◌, inl, inr, ℕ, zero, suc, ◌<◌, ◌+◌, List, [], ◌∷◌, ◌++◌, length, take, get_or, slice_get, Some, refl, sym, ◌∙◌, ap, arith}
use Rattle.std.specs.List.{AllZip}
use Rattle.std.proofs.lemmas.List.{take_more}
use Rattle.std.proofs.lemmas.Option.{slice_get_cases}

-- what stands in a list stands there in a longer one
pub earlier : {X : Type 0} (xs ys : List X) (i : ℕ) (x : X) → slice_get xs i ≡ Some x → slice_get (xs ++ ys) i ≡ Some x
earlier [] ys i x at = absurd (cc)
earlier (first ∷ xs) ys zero x at = at
earlier (first ∷ xs) ys (suc i) x at = earlier xs ys i x at

-- and the next element stands behind it
pub last : {X : Type 0} (xs : List X) (x : X) → slice_get (xs ++ x ∷ []) (length xs) ≡ Some x
last [] x = refl
last (first ∷ xs) x = last xs x

-- the elements up to a place, and the one there
pub take_push : {X : Type 0} (xs : List X) (i : ℕ) (x : X) → i < length xs → x ≡ get_or xs i x → take i xs ++ x ∷ [] ≡ take (i + 1) xs
take_push xs i x within is = ap (λ one. take i xs ++ one ∷ []) is ∙ sym (take_more xs i x within)

-- an element at a place of a list of this length
pub there_is : {X : Type 0} (xs : List X) (i n : ℕ) → n ≡ length xs → i < n → (x : X) × (slice_get xs i ≡ Some x)
there_is xs i n count within = elim (slice_get_cases xs i).1 [
  | inl found ↦ (found.0, found.2)
  | inr past ↦ absurd (omega (arith, past.0, count, within))
]

module _ {A B : Type 0} where
  -- one pair more
  pub all_push : (R : A → B → Type 0) (xs : List A) (ys : List B) (x : A) (y : B) → AllZip R xs ys → R x y → AllZip R (xs ++ x ∷ []) (ys ++ y ∷ [])
  all_push R [] [] x y are is = (is, tt)
  all_push R [] (first ∷ ys) x y are is = absurd are
  all_push R (first ∷ xs) [] x y are is = absurd are
  all_push R (one ∷ xs) (other ∷ ys) x y are is = (are.0, all_push R xs ys x y are.1 is)

  -- what follows from it holds of all pairs
  pub all_follow : (R S : A → B → Type 0) → ((x : A) (y : B) → R x y → S x y) → (xs : List A) (ys : List B) → AllZip R xs ys → AllZip S xs ys
  all_follow R S follows [] [] are = tt
  all_follow R S follows [] (y ∷ ys) are = absurd are
  all_follow R S follows (x ∷ xs) [] are = absurd are
  all_follow R S follows (x ∷ xs) (y ∷ ys) are = (follows x y are.0, all_follow R S follows xs ys are.1)
