-- Elements of lists that are joined.
use Rattle.std.proofs.Common.{◌≡◌, ℕ, zero, suc, ◌+◌, ◌<◌, ◌≤◌, ◌++◌, List, [], ◌∷◌, length, drop, refl, ap, ◌-◌, ◌∙◌, arith}
use Rattle.std.specs.Prelude.{slice_get, slice_range}
use Rattle.std.proofs.Math.Seq.{take-append_seam}
use Rattle.std.proofs.lemmas.List.{length-append, length-drop, take_all}
use Rattle.mds_past.specs.Shared.{StandsAt}

module _ {A : Type 0} where
  -- an element of the first of two lists
  pub slice_get-append : (xs ys : List A) (at : ℕ) → at < length xs → slice_get (xs ++ ys) at ≡ slice_get xs at
  slice_get-append [] ys at within = absurd (omega arith)
  slice_get-append (x ∷ xs) ys zero within = refl
  slice_get-append (x ∷ xs) ys (suc at) within = slice_get-append xs ys at (omega arith)

  -- an element of the second
  pub slice_get-behind : (xs ys : List A) (at place : ℕ) → at ≡ length xs + place → slice_get (xs ++ ys) at ≡ slice_get ys place
  slice_get-behind [] ys at place is = let same : at ≡ place = omega arith in rw same refl
  slice_get-behind (x ∷ xs) ys zero place is = absurd (omega arith)
  slice_get-behind (x ∷ xs) ys (suc at) place is = slice_get-behind xs ys at place (omega arith)

-- these types stand where what comes from a place on begins with them
pub stands_from : (types names rest : List (List ℕ)) (start : ℕ) → start ≤ length names → length rest + start ≡ length names → rest ≡ slice_range names start (length names)
    → rest ≡ types ++ drop (length types) rest → StandsAt types names start
stands_from types names rest start from ends is begins =
    let tail : rest ≡ drop start names = is ∙ take_all (length names - start) (drop start names) (omega (arith, length-drop start names)) in
    record {
      within = omega (arith, length-append types (drop (length types) rest), ap length begins);
      are = rw (← tail, begins) (take-append_seam types (drop (length types) rest));
    }
