-- Lists in which each stands before the next one: looking up, and an insert at its place.
use Rattle.std.proofs.Common.{◌≡◌, ℕ, suc, zero, ◌+◌, ◌<◌, ◌≤◌, ◌&&◌, List, [], ◌∷◌, length, Bool, true, get_or, Contains, Result, Ok, Err, refl, sym, ◌∙◌, ap, subst, inl, inr, ⊎_elim, ◌⊎◌, arith, rules}
use Rattle.std.specs.List.{insert, AllWithin}
use Rattle.std.specs.List.Sorted.{IsBinarySearchResult, IsSortedBy, IsSearchInRange}
use Rattle.std.specs.declared.cmp.Ordering.{Ordering}
use Rattle.std.specs.declared.cmp.Ordering.TheVariants.{Less, Equal, Greater}
use Rattle.std.specs.Ordering.{is_lt, ordering_reverse}
use Rattle.std.specs.Result.{MatchResult, is_ok}
use Rattle.std.specs.Bool.{IsTrue}
use Rattle.std.specs.Cmp.{IsTotalOrder}
use Rattle.std.proofs.lemmas.Cmp.{tied_itself}
use Rattle.std.proofs.lemmas.Bool.{cases_lt, and_parts}
use Rattle.std.proofs.lemmas.List.Sorted.{searchable_from_sorted, IsPermutation-insert, IsPermutation-sym, Contains-permutation}
use Rattle.mds_table.specs.Row.{ascends}
use Rattle.mds_table.specs.Entry.{Adds}

pub Contains-tail : {X : Type 0} (y x : X) (xs : List X) → Contains xs y → Contains (x ∷ xs) y
Contains-tail y x xs found = (suc found.0, omega (arith, found.1), found.2)

pub head_or_tail : {X : Type 0} (y x : X) (xs : List X) → Contains (x ∷ xs) y → Contains xs y ⊎ (y ≡ x)
head_or_tail y x xs (zero, within, is) = inr (sym is)
head_or_tail y x xs (suc k, within, is) = inl (k, omega (arith, within), is)

pub lt_is_Less : (o : Ordering) → is_lt o ≡ true → o ≡ Less
lt_is_Less Less is = refl
lt_is_Less Equal is = cc
lt_is_Less Greater is = cc

-- each stands before its neighbour
neighbours : {X : Type 0} (cmp : X → X → Ordering) (xs : List X) → ascends cmp xs ≡ true
    → (k : ℕ) (d : X) → k + 1 < length xs → cmp (get_or xs k d) (get_or xs (k + 1) d) ≡ Less
neighbours cmp [] up k d within = absurd (omega arith)
neighbours cmp (x ∷ []) up k d within = absurd (omega arith)
neighbours cmp (x ∷ next ∷ rest) up zero d within = lt_is_Less (cmp x next) (and_parts (is_lt (cmp x next)) (ascends cmp (next ∷ rest)) up).0
neighbours cmp (x ∷ next ∷ rest) up (suc k) d within =
    let place : suc k + 1 ≡ suc (k + 1) = omega arith in
    let later = neighbours cmp (next ∷ rest) (and_parts (is_lt (cmp x next)) (ascends cmp (next ∷ rest)) up).1 k d (omega arith) in
    rw place later

pub sorted : {X : Type 0} {cmp : X → X → Ordering} (o : IsTotalOrder cmp) (xs : List X) → ascends cmp xs ≡ true → IsSortedBy (λ a b. is_lt (cmp a b)) xs
sorted {X} {cmp} o xs up k d low within =
    ap is_lt (o.antisymm (get_or xs (k + 1) d) (get_or xs k d) ∙ ap ordering_reverse (neighbours cmp xs up k d within))

-- x goes in behind those before it and in front of those behind it
inserted_after : {X : Type 0} {cmp : X → X → Ordering} (o : IsTotalOrder cmp) (x first : X) (xs : List X) (i : ℕ) → i ≤ length xs
    → ascends cmp (first ∷ xs) ≡ true → cmp first x ≡ Less
    → AllWithin (λ y. cmp y x ≡ Less) xs 0 i → AllWithin (λ y. cmp y x ≡ Greater) xs i (length xs)
    → ascends cmp (first ∷ insert xs i x) ≡ true
inserted_after o x first [] zero within up before below above = ap (λ c. is_lt c && true) before
inserted_after {X} {cmp} o x first (y ∷ ys) zero within up before below above =
    let behind : cmp x y ≡ Less = o.antisymm x y ∙ ap ordering_reverse (above 0 x (omega arith) (omega arith)) in
    let rest = (and_parts (is_lt (cmp first y)) (ascends cmp (y ∷ ys)) up).1 in
    rw (before, behind, rest) refl
inserted_after o x first [] (suc i) within up before below above = absurd (omega arith)
inserted_after {X} {cmp} o x first (y ∷ ys) (suc i) within up before below above =
    let parts = and_parts (is_lt (cmp first y)) (ascends cmp (y ∷ ys)) up in
    let later = inserted_after o x y ys i (omega arith) parts.1 (below 0 x (omega arith) (omega arith))
    (λ k d low high. below (suc k) d (omega arith) (omega arith)) (λ k d low high. above (suc k) d (omega arith) (omega arith)) in
    rw (parts.0, later) refl

pub inserted : {X : Type 0} {cmp : X → X → Ordering} (o : IsTotalOrder cmp) (x : X) (xs : List X) (i : ℕ) → i ≤ length xs → ascends cmp xs ≡ true
    → AllWithin (λ y. cmp y x ≡ Less) xs 0 i → AllWithin (λ y. cmp y x ≡ Greater) xs i (length xs)
    → ascends cmp (insert xs i x) ≡ true
inserted o x [] zero within up below above = refl
inserted {X} {cmp} o x (y ∷ ys) zero within up below above =
    let behind : cmp x y ≡ Less = o.antisymm x y ∙ ap ordering_reverse (above 0 x (omega arith) (omega arith)) in
    rw (behind, up) refl
inserted o x [] (suc i) within up below above = absurd (omega arith)
inserted o x (y ∷ ys) (suc i) within up below above =
    inserted_after o x y ys i (omega arith) up (below 0 x (omega arith) (omega arith))
    (λ k d low high. below (suc k) d (omega arith) (omega arith)) (λ k d low high. above (suc k) d (omega arith) (omega arith))

-- x is none of those before it and those behind it
pub none : {X : Type 0} {cmp : X → X → Ordering} (o : IsTotalOrder cmp) (x : X) (xs : List X) (i : ℕ)
    → AllWithin (λ y. cmp y x ≡ Less) xs 0 i → AllWithin (λ y. cmp y x ≡ Greater) xs i (length xs) → Contains xs x → ⊥
none {X} {cmp} o x xs i below above found =
    ⊎_elim (λ early. clash Less (below found.0 x (omega arith) early) (λ e. cc)) (λ late. clash Greater (above found.0 x late found.1) (λ e. cc)) (cases_lt found.0 i)
  where
    clash : (side : Ordering) → cmp (get_or xs found.0 x) x ≡ side → (side ≡ Equal → ⊥) → ⊥
    clash side at not_equal =
        let here : cmp x x ≡ side = rw found.2 at at in
        not_equal (sym here ∙ tied_itself o x)

-- What a search for x answers: the place of x, or the place where it goes in.
pub searched : {X : Type 0} {cmp : X → X → Ordering} (o : IsTotalOrder cmp) (same : (x y : X) → cmp x y ≡ Equal → x ≡ y) (xs : List X) (x : X) (r : Result ℕ ℕ)
    → ascends cmp xs ≡ true → IsSearchInRange r (length xs) → IsBinarySearchResult (λ y. cmp y x) xs r
    → MatchResult r (λ _. Contains xs x) (λ i. (Contains xs x → ⊥) × (ascends cmp (insert xs i x) ≡ true))
searched o same xs x (Ok i) up within at = (i, within, same (get_or xs i x) x (at x))
searched o same xs x (Err i) up within at =
    let sides = at (searchable_from_sorted o (λ y. y) xs x (sorted o xs up)) in
    (none o x xs i sides.0 sides.1, inserted o x xs i within up sides.0 sides.1)

-- so the search tells whether x is there
pub decided : {X : Type 0} (cmp : X → X → Ordering) (xs : List X) (x : X) (r : Result ℕ ℕ) (found : Bool) → found ≡ is_ok r
    → MatchResult r (λ _. Contains xs x) (λ i. (Contains xs x → ⊥) × (ascends cmp (insert xs i x) ≡ true))
    → (IsTrue found → Contains xs x) × (Contains xs x → IsTrue found)
decided cmp xs x (Ok i) found is at = rw is (λ yes. at, λ there. search rules)
decided cmp xs x (Err i) found is at = rw is (λ yes. cc, λ there. absurd (at.0 there))

-- an insert adds one
pub insert_adds : {X : Type 0} (xs : List X) (i : ℕ) (x : X) → Adds xs (insert xs i x) (λ y. y ≡ x)
insert_adds xs i x = record {
  keeps = λ y found. moved y (Contains-tail y x xs found);
  adds = λ y is. moved y (0, omega arith, sym is);
  none_else = λ y found. head_or_tail y x xs (Contains-permutation (insert xs i x) (x ∷ xs) y (IsPermutation-sym (x ∷ xs) (insert xs i x) (IsPermutation-insert xs i x)) found);
} where
  moved : (y : _) → Contains (x ∷ xs) y → Contains (insert xs i x) y
  moved y found = Contains-permutation (x ∷ xs) (insert xs i x) y (IsPermutation-insert xs i x) found

-- nothing is added where it is there
pub nothing_added : {X : Type 0} (xs : List X) (x : X) → Contains xs x → Adds xs xs (λ y. y ≡ x)
nothing_added xs x found = record {
  keeps = λ y there. there;
  adds = λ y is. subst (Contains xs) (sym is) found;
  none_else = λ y there. inl there;
}
