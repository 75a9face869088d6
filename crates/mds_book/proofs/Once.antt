-- Where no place has more than one, and there are as many as places, each place has one.
use Rattle.std.proofs.Common.{◌≡◌, ◌⊎◌, inl, inr, ℕ, zero, suc, ◌+◌, ◌<◌, ◌≤◌, ap, arith, add-one}
use Rattle.std.proofs.lemmas.Bool.{cases_lt}

-- there are no more below a place than places below it
at_most : (at below : ℕ → ℕ) → ((m : ℕ) → below (m + 1) ≡ below m + at m) → below 0 ≡ 0 → ((p : ℕ) → at p ≤ 1) → (m : ℕ) → below m ≤ m
at_most at below next none few zero = omega (arith, none)
at_most at below next none few (suc m) = rw (← add-one m) (omega (arith, next m, at_most at below next none few m, few m))

-- and one fewer where a place below it has none
one_fewer : (at below : ℕ → ℕ) → ((m : ℕ) → below (m + 1) ≡ below m + at m) → below 0 ≡ 0 → ((p : ℕ) → at p ≤ 1) → (m p : ℕ) → p < m → below m + 1 ≤ m + at p
one_fewer at below next none few zero p less = absurd (omega arith)
one_fewer at below next none few (suc m) p less =
    let before = λ (under : p < m). one_fewer at below next none few m p under in
    rw (← add-one m) (by_place before (cases_lt p m)) where
      by_place : (p < m → below m + 1 ≤ m + at p) → (p < m) ⊎ (m ≤ p) → below (m + 1) + 1 ≤ (m + 1) + at p
      by_place before (inl under) = omega (arith, next m, before under, few m)
      by_place before (inr over) =
          let same : p ≡ m = omega arith in
          omega (arith, next m, at_most at below next none few m, ap at same)

pub each_has : (at below : ℕ → ℕ) → ((m : ℕ) → below (m + 1) ≡ below m + at m) → below 0 ≡ 0 → ((p : ℕ) → at p ≤ 1) → (n : ℕ) → below n ≡ n
    → (p : ℕ) → p < n → 1 ≤ at p
each_has at below next none few n full p less = omega (arith, one_fewer at below next none few n p less)
