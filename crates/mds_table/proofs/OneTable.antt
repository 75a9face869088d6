-- A table file has one table.
use Rattle.std.proofs.Common.{◌≡◌, ℕ, suc, zero, List, [], ◌∷◌, true, Option, Some, None, refl, sym, ◌∙◌, ap, subst, ⊎_elim, arith}
use Rattle.std.specs.List.{Contains}
use Rattle.std.specs.Option.{IsSomeAnd}
use Rattle.std.specs.declared.cmp.Ordering.{Ordering}
use Rattle.std.specs.declared.cmp.Ordering.TheVariants.{Less, Equal, Greater}
use Rattle.std.specs.Ordering.{is_lt, ordering_reverse}
use Rattle.std.specs.Cmp.{IsTotalOrder}
use Rattle.std.proofs.lemmas.Cmp.{tied_itself}
use Rattle.std.proofs.lemmas.Bool.{and_parts}
use Rattle.serde_json.specs.Data.{Data}
use Rattle.mds_table.specs.declared.row.Row.{Row}
use Rattle.mds_table.specs.Row.{ascends}
use Rattle.mds_table.specs.Json.{IsShortTextOf}
use Rattle.mds_table.specs.TableFile.{AreRowsOf, HasTable, HasEntries, entries_in}
use Rattle.mds_table.specs.RowLaws.{row_cmp_total}
use Rattle.mds_table.proofs.Ascending.{Contains-tail, head_or_tail, lt_is_Less}

-- the first stands before every other
pub before_all : {X : Type 0} {cmp : X → X → Ordering} (o : IsTotalOrder cmp) (x : X) (xs : List X) → ascends cmp (x ∷ xs) ≡ true
    → (z : X) → Contains xs z → cmp x z ≡ Less
before_all o x [] up z found = absurd (omega (arith, found.1))
before_all {X} {cmp} o x (y ∷ ys) up z (zero, within, is) =
    subst (λ w. cmp x w ≡ Less) is (lt_is_Less (cmp x y) (and_parts (is_lt (cmp x y)) (ascends cmp (y ∷ ys)) up).0)
before_all {X} {cmp} o x (y ∷ ys) up z (suc k, within, is) =
    let parts = and_parts (is_lt (cmp x y)) (ascends cmp (y ∷ ys)) up in
    o.trans x y z (lt_is_Less (cmp x y) parts.0) (before_all o y ys parts.1 z (k, omega (arith, within), is))

-- none stands before itself
pub not_itself : {X : Type 0} {cmp : X → X → Ordering} (o : IsTotalOrder cmp) (x z : X) → cmp x z ≡ Less → z ≡ x → ⊥
not_itself {X} {cmp} o x z less same =
    let here : cmp x x ≡ Less = subst (λ w. cmp x w ≡ Less) same less in
    let tied : cmp x x ≡ Equal = tied_itself o x in cc

pub rest_ascends : {X : Type 0} (cmp : X → X → Ordering) (x : X) (xs : List X) → ascends cmp (x ∷ xs) ≡ true → ascends cmp xs ≡ true
rest_ascends cmp x [] up = refl
rest_ascends cmp x (y ∷ ys) up = (and_parts (is_lt (cmp x y)) (ascends cmp (y ∷ ys)) up).1

-- the first of two lists with the same members
same_first : {X : Type 0} {cmp : X → X → Ordering} (o : IsTotalOrder cmp) (x y : X) (xs ys : List X) → ascends cmp (x ∷ xs) ≡ true → ascends cmp (y ∷ ys) ≡ true
    → Contains (y ∷ ys) x → Contains (x ∷ xs) y → x ≡ y
same_first {X} {cmp} o x y xs ys up vp x_there y_there = ⊎_elim
    (λ later. ⊎_elim
    (λ late.
    let one : cmp y x ≡ Less = before_all o y ys vp x later in
    let other : cmp x y ≡ Less = before_all o x xs up y late in
    let turned : cmp y x ≡ Greater = o.antisymm y x ∙ ap ordering_reverse other in cc)
    (λ same. sym same)
    (head_or_tail y x xs y_there))
    (λ same. same)
    (head_or_tail x y ys x_there)

-- lists that ascend and have the same members are the same
pub same_members : {X : Type 0} {cmp : X → X → Ordering} (o : IsTotalOrder cmp) (xs ys : List X) → ascends cmp xs ≡ true → ascends cmp ys ≡ true
    → ((z : X) → Contains xs z → Contains ys z) → ((z : X) → Contains ys z → Contains xs z) → xs ≡ ys
same_members o [] [] up vp to from = refl
same_members o [] (y ∷ ys) up vp to from = absurd (omega (arith, (from y (0, omega arith, refl)).1))
same_members o (x ∷ xs) [] up vp to from = absurd (omega (arith, (to x (0, omega arith, refl)).1))
same_members {X} {cmp} o (x ∷ xs) (y ∷ ys) up vp to from =
    let first : x ≡ y = same_first o x y xs ys up vp (to x (0, omega arith, refl)) (from y (0, omega arith, refl)) in
    let rest : xs ≡ ys = same_members o xs ys (rest_ascends cmp x xs up) (rest_ascends cmp y ys vp)
    (λ z there. ⊎_elim (λ found. found) (λ same. absurd (not_itself o x z (before_all o x xs up z there) (same ∙ sym first))) (head_or_tail z y ys (to z (Contains-tail z x xs there))))
    (λ z there. ⊎_elim (λ found. found) (λ same. absurd (not_itself o y z (before_all o y ys vp z there) (same ∙ first))) (head_or_tail z x xs (from z (Contains-tail z y ys there)))) in
    λ i. first i ∷ rest i

pub same_rows : (entries : List Data) (rows others : List Row) → AreRowsOf entries rows → AreRowsOf entries others → rows ≡ others
same_rows entries rows others is are =
    same_members row_cmp_total rows others is.order are.order
    (λ row there. are.all row (is.none_else row there)) (λ row there. is.all row (are.none_else row there))

pub both_hold : {T : Type 0} {P Q : T → Type 0} (o : Option T) → IsSomeAnd o P → IsSomeAnd o Q → (x : T) × P x × Q x
both_hold None p q = absurd p
both_hold (Some x) p q = (x, p, q)

-- the value of a text is one
pub same_value : (bytes : List ℕ) (value other : Data) → IsShortTextOf value bytes → IsShortTextOf other bytes → other ≡ value
same_value bytes value other is are =
    let texts : Some other ≡ Some value = sym are.1.1 ∙ is.1.1 in cc

-- what is said of a file's entries is said of the same ones
pub joined : (bytes : List ℕ) {P Q : List Data → Type 0} → HasEntries bytes P → HasEntries bytes Q → (entries : List Data) × P entries × Q entries
joined bytes {P} {Q} is are =
    both_hold (entries_in is.0) is.2 (subst (λ value. IsSomeAnd (entries_in value) Q) (same_value bytes is.0 are.0 is.1 are.1) are.2)

pub one_table : (bytes : List ℕ) (rows others : List Row) → HasTable bytes rows → HasTable bytes others → rows ≡ others
one_table bytes rows others is are =
    let both = joined bytes is are in
    same_rows both.0 rows others both.1.2.exactly both.2.2.exactly
