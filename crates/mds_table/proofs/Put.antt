-- Moves in which those of one type are put anew.
use Rattle.std.proofs.Common.{◌≡◌, ◌⊎◌, ℕ, suc, zero, ◌<◌, ◌&&◌, List, [], ◌∷◌, length, map, true, Contains, slice_set, get_or, refl, sym, ◌∙◌, ap, subst, inl, inr, ⊎_elim, arith}
use Rattle.std.specs.List.{insert}
use Rattle.std.specs.declared.cmp.Ordering.{Ordering}
use Rattle.std.specs.declared.cmp.Ordering.TheVariants.{Less, Equal, Greater}
use Rattle.std.specs.Ordering.{nat_cmp, is_lt, ordering_reverse}
use Rattle.std.specs.Cmp.{IsTotalOrder}
use Rattle.std.specs.Cmp.Lexicographic.{slice_cmp}
use Rattle.std.proofs.Math.Seq.{map-set_same}
use Rattle.std.proofs.lemmas.Bool.{cases_eq}
use Rattle.std.proofs.lemmas.Cmp.{nat_list_cmp_total, tied_itself}
use Rattle.std.proofs.lemmas.List.{get_or_default, get_or-set_same, get_or-set_other, length-set}
use Rattle.mds_table.specs.declared.row.Row.{Row}
use Rattle.mds_table.specs.declared.moves.Moves.{Moves}
use Rattle.mds_table.specs.Row.{row_of, ascends}
use Rattle.mds_table.specs.Mask.{AreMasks}
use Rattle.mds_table.specs.Moves.{moves_cmp, HasKind, HasKindAt, HasGapAt, GrowsBy, AreMoves}
use Rattle.mds_table.proofs.Ascending.{insert_adds}
use Rattle.mds_table.proofs.OneTable.{before_all, rest_ascends}
use Rattle.mds_table.proofs.Sought.{moves_cmp_total}

-- moves ascend as their types do
pub ascends_kinds : (moves : List Moves) → ascends moves_cmp moves ≡ ascends (slice_cmp nat_cmp) (map (λ m. m.kind) moves)
ascends_kinds [] = refl
ascends_kinds (m ∷ []) = refl
ascends_kinds (m ∷ next ∷ rest) = ap (λ later. is_lt (moves_cmp m next) && later) (ascends_kinds (next ∷ rest))

-- in a list that ascends no two are tied
once : {X : Type 0} {cmp : X → X → Ordering} (o : IsTotalOrder cmp) (xs : List X) (d : X) (i j : ℕ) → ascends cmp xs ≡ true → i < length xs → j < length xs
    → cmp (get_or xs i d) (get_or xs j d) ≡ Equal → i ≡ j
once o [] d i j up early late tied = absurd (omega arith)
once o (x ∷ xs) d zero zero up early late tied = refl
once {X} {cmp} o (x ∷ xs) d zero (suc j) up early late tied =
    let less : cmp x (get_or xs j d) ≡ Less = before_all o x xs up (get_or xs j d) (j, omega arith, get_or_default xs j (get_or xs j d) d (omega arith)) in cc
once {X} {cmp} o (x ∷ xs) d (suc i) zero up early late tied =
    let less : cmp x (get_or xs i d) ≡ Less = before_all o x xs up (get_or xs i d) (i, omega arith, get_or_default xs i (get_or xs i d) d (omega arith)) in
    let more : cmp (get_or xs i d) x ≡ Greater = o.antisymm (get_or xs i d) x ∙ ap ordering_reverse less in cc
once {X} {cmp} o (x ∷ xs) d (suc i) (suc j) up early late tied =
    ap suc (once o xs d i j (rest_ascends cmp x xs up) (omega arith) (omega arith) tied)

-- what moves of another type say is as before
others : (rows more : List Row) (kind : List ℕ) (m : Moves) → (m.kind ≡ kind → ⊥) → GrowsBy rows more kind → AreMasks rows m.kind m.masks
    → AreMasks more m.kind m.masks
others rows more kind m other grows are from to = (
  λ has. grows.keeps (row_of from m.kind to) ((are from to).0 has),
  λ there. ⊎_elim
      (λ before. (are from to).1 before)
      (λ is. absurd (other is))
      (grows.none_else (row_of from m.kind to) there),
)

-- what the moves that are put say
said : (more : List Row) (m : Moves) (kind : List ℕ) (x : Moves) → m.kind ≡ kind → x ≡ m → AreMasks more kind m.masks → AreMasks more x.kind x.masks
said more m kind x named is masks =
    subst (λ y. AreMasks more y.kind y.masks) (sym is) (subst (λ name. AreMasks more name m.masks) (sym named) masks)

-- a member of a list that one is put in, or the one
put_or_there : {X : Type 0} (xs : List X) (at : ℕ) (x y : X) → at < length xs → Contains (slice_set xs at x) y
    → (y ≡ x) ⊎ ((k : ℕ) × (k ≡ at → ⊥) × (k < length xs) × (get_or xs k y ≡ y))
put_or_there xs at x y within there = ⊎_elim
    (λ same.
    let here : get_or (slice_set xs at x) at y ≡ x = get_or-set_same xs at x y within in
    let is : get_or (slice_set xs at x) at y ≡ y = subst (λ k. get_or (slice_set xs at x) k y ≡ y) same there.2 in
    inl (sym is ∙ here))
    (λ apart. inr (there.0, apart, omega (arith, there.1, length-set xs at x), sym (get_or-set_other xs at there.0 x y apart) ∙ there.2))
    (cases_eq there.0 at)

-- moves of a type that is there are put
pub put_there : (rows more : List Row) (moves : List Moves) (m : Moves) (kind : List ℕ) (at : ℕ) → m.kind ≡ kind → HasKindAt moves kind at
    → AreMoves rows rows moves → GrowsBy rows more kind → AreMasks more kind m.masks → AreMoves more more (slice_set moves at m)
put_there rows more moves m kind at named place are grows masks = record {
  order = ascends_kinds (slice_set moves at m) ∙ ap (ascends (slice_cmp nat_cmp)) kept ∙ sym (ascends_kinds moves) ∙ are.order;
  masks = λ x there. ⊎_elim
      (λ is. said more m kind x named is masks)
      (λ old. others rows more kind x (apart x old.0 old.1 old.2 old.3) grows (are.masks x (old.0, old.2, old.3)))
      (put_or_there moves at m x place.within there);
  kinds = λ row there. ⊎_elim
      (λ before. has row.kind (are.kinds row before))
      (λ new. (m, (at, rw length-set place.within, get_or-set_same moves at m m place.within), named ∙ sym new))
      (grows.none_else row there);
} where
  kept : map (λ x. x.kind) (slice_set moves at m) ≡ map (λ x. x.kind) moves
  kept = map-set_same (λ x. x.kind) moves at m m (named ∙ sym (place.is m))

  apart : (x : Moves) (k : ℕ) → (k ≡ at → ⊥) → k < length moves → get_or moves k x ≡ x → x.kind ≡ kind → ⊥
  apart x k other within is same =
      let names : (get_or moves k x).kind ≡ (get_or moves at x).kind = ap (λ y. y.kind) is ∙ same ∙ sym (place.is x) in
      other (once moves_cmp_total moves x k at are.order within place.within
      (subst (λ name. slice_cmp nat_cmp name (get_or moves at x).kind ≡ Equal) (sym names) (tied_itself nat_list_cmp_total (get_or moves at x).kind)))

  has : (name : List ℕ) → HasKind moves name → HasKind (slice_set moves at m) name
  has name (x, (k, within, is), names) = ⊎_elim
      (λ same.
      let there : get_or moves at x ≡ x = subst (λ i. get_or moves i x ≡ x) same is in
      (m, (at, rw length-set place.within, get_or-set_same moves at m m place.within), named ∙ sym (place.is x) ∙ ap (λ y. y.kind) there ∙ names))
      (λ other. (x, (k, rw length-set within, get_or-set_other moves at k m x other ∙ is), names))
      (cases_eq k at)

-- moves of a type that isn't there are put in its gap
pub put_in : (rows more : List Row) (moves : List Moves) (m : Moves) (kind : List ℕ) (at : ℕ) → m.kind ≡ kind → HasGapAt moves kind at
    → AreMoves rows rows moves → GrowsBy rows more kind → AreMasks more kind m.masks → AreMoves more more (insert moves at m)
put_in rows more moves m kind at named gap are grows masks =
    let added = insert_adds moves at m in record {
      order = gap.order m named;
      masks = λ x there. ⊎_elim
          (λ old. others rows more kind x (λ same. gap.none (x, old, same)) grows (are.masks x old))
          (λ is. said more m kind x named is masks)
          (added.none_else x there);
      kinds = λ row there. ⊎_elim
          (λ before. let has = are.kinds row before in (has.0, added.keeps has.0 has.1, has.2))
          (λ new. (m, added.adds m refl, named ∙ sym new))
          (grows.none_else row there);
    }

-- no other type comes in
pub kinds_in : (moves : List Moves) (m : Moves) (kind : List ℕ) (at : ℕ) → m.kind ≡ kind
    → (x : Moves) → Contains (insert moves at m) x → HasKind moves x.kind ⊎ (x.kind ≡ kind)
kinds_in moves m kind at named x there = ⊎_elim
    (λ old. inl (x, old, refl))
    (λ is. inr (ap (λ y. y.kind) is ∙ named))
    ((insert_adds moves at m).none_else x there)
