-- A test that holds of each item, and the first item that fails it.
use Rattle.std.proofs.Common.{◌≡◌, ℕ, suc, cond, ◌&&◌, ◌+◌, List, [], ◌∷◌, length, Bool, true, false, not, nat_lt, Some, None, is_some, position, refl, arith, ◌∙◌, sym, ap}
use Rattle.std.specs.List.{list_all, position_or_len}
use Rattle.std.proofs.lemmas.Bool.Decides.{nat_tests}

-- the first item that fails a test is within the list exactly where not each item passes
pub nat_lt-position_or_len-not : {X : Type 0} (p : X → Bool) (xs : List X) → nat_lt (position_or_len (λ x. not (p x)) xs) (length xs) ≡ not (list_all p xs)
nat_lt-position_or_len-not p [] = refl
nat_lt-position_or_len-not {X} p (x ∷ xs) = cases (p x) (position_or_len (λ x'. not (p x')) xs) (length xs) (list_all p xs) (nat_lt-position_or_len-not p xs) where
  cases : (here : Bool) (at count : ℕ) (all : Bool) → nat_lt at count ≡ not all → nat_lt (cond (not (not here)) (1 + at) 0) (suc count) ≡ not (here && all)
  cases true at count all step = grind (arith, nat_tests, step)
  cases false at count all step = grind (arith, nat_tests)

pub is_some-position-not : {X : Type 0} (p : X → Bool) (xs : List X) → is_some (position (λ x. not (p x)) xs) ≡ not (list_all p xs)
is_some-position-not p xs = found (nat_lt (position_or_len (λ x. not (p x)) xs) (length xs)) (position_or_len (λ x. not (p x)) xs) ∙ nat_lt-position_or_len-not p xs where
  found : (b : Bool) (at : ℕ) → is_some (cond b (Some at) None) ≡ b
  found true at = refl
  found false at = refl

-- no item fails
pub all_pass : {X : Type 0} (p : X → Bool) (xs : List X) → position (λ x. not (p x)) xs ≡ None → list_all p xs ≡ true
all_pass p xs none = truth (list_all p xs) (sym (ap is_some none) ∙ is_some-position-not p xs) where
  truth : (b : Bool) → false ≡ not b → b ≡ true
  truth true h = refl
  truth false h = cc

-- an item fails
pub one_fails : {X : Type 0} (p : X → Bool) (xs : List X) (at : ℕ) → position (λ x. not (p x)) xs ≡ Some at → list_all p xs ≡ false
one_fails p xs at some = truth (list_all p xs) (sym (ap is_some some) ∙ is_some-position-not p xs) where
  truth : (b : Bool) → true ≡ not b → b ≡ false
  truth false h = refl
  truth true h = cc
