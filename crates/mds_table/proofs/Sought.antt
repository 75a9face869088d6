-- Moves in the order of their types: looking up a type, and adding one.
use Rattle.std.proofs.Common.{◌≡◌, ◌++◌, ℕ, List, [], ◌∷◌, length, true, get_or, Result, Ok, Err, refl, sym, ◌∙◌, ap, subst, ⊎_elim}
use Rattle.std.specs.List.{insert}
use Rattle.std.specs.List.Sorted.{IsBinarySearchResult, IsSearchInRange}
use Rattle.std.specs.Ordering.{nat_cmp}
use Rattle.std.specs.Result.{MatchResult}
use Rattle.std.specs.Cmp.{IsTotalOrder}
use Rattle.std.specs.Cmp.Lexicographic.{slice_cmp}
use Rattle.std.proofs.lemmas.Cmp.{nat_list_cmp_total, on_total}
use Rattle.std.proofs.lemmas.List.Sorted.{searchable_from_sorted}
use Rattle.std.proofs.lemmas.List.Elements.{Contains-get_or, Contains-push_cases}
use Rattle.mds_table.specs.declared.row.Row.{Row}
use Rattle.mds_table.specs.declared.moves.Moves.{Moves}
use Rattle.mds_table.specs.Row.{ascends}
use Rattle.mds_table.specs.Mask.{AreMasks}
use Rattle.mds_table.specs.Moves.{moves_cmp, HasKindAt, HasGapAt, AreMoves}
use Rattle.mds_table.proofs.RowOrder.{same_name}
use Rattle.mds_table.proofs.Ascending.{sorted, inserted, none, insert_adds}

pub moves_cmp_total : IsTotalOrder moves_cmp
moves_cmp_total = on_total (λ m. m.kind) nat_list_cmp_total

-- what a binary search tells
pub sought : (moves : List Moves) (kind : List ℕ) (r : Result ℕ ℕ) → ascends moves_cmp moves ≡ true → IsSearchInRange r (length moves)
    → IsBinarySearchResult (λ m. slice_cmp nat_cmp m.kind kind) moves r → MatchResult r (HasKindAt moves kind) (HasGapAt moves kind)
sought moves kind (Ok at) up within found = record { within = within; is = λ d. same_name (get_or moves at d).kind kind (found d) }
sought moves kind (Err at) up within found =
    let sides = found (searchable_from_sorted nat_list_cmp_total (λ m. m.kind) moves kind (sorted moves_cmp_total moves up)) in record {
      within = within;
      none = λ has. none moves_cmp_total has.0 moves at (rw has.2 sides.0) (rw has.2 sides.1) has.1;
      order = λ m is. inserted moves_cmp_total m moves at within up (rw is sides.0) (rw is sides.1);
    }

-- a row of a type that is there
pub kind_passed : (rows seen : List Row) (moves : List Moves) (row : Row) (at : ℕ) → HasKindAt moves row.kind at
    → AreMoves rows seen moves → AreMoves rows (seen ++ row ∷ []) moves
kind_passed rows seen moves row at has are =
    let d : Moves = record { kind = row.kind; masks = [] } in record {
      order = are.order;
      masks = are.masks;
      kinds = λ other there. ⊎_elim
          (are.kinds other)
          (λ is. (get_or moves at d, Contains-get_or moves at d has.within, has.is d ∙ ap (λ r. r.kind) is))
          (Contains-push_cases seen row other there);
    }

-- a row of a type that is added
pub kind_added : (rows seen : List Row) (moves : List Moves) (row : Row) (m : Moves) (at : ℕ) → m.kind ≡ row.kind → AreMasks rows m.kind m.masks
    → HasGapAt moves row.kind at → AreMoves rows seen moves → AreMoves rows (seen ++ row ∷ []) (insert moves at m)
kind_added rows seen moves row m at is masks gap are =
    let added = insert_adds moves at m in record {
      order = gap.order m is;
      masks = λ x there. ⊎_elim (are.masks x) (λ new. subst (λ y. AreMasks rows y.kind y.masks) (sym new) masks) (added.none_else x there);
      kinds = λ other there. ⊎_elim
          (λ old. let has = are.kinds other old in (has.0, added.keeps has.0 has.1, has.2))
          (λ new. (m, added.adds m refl, is ∙ ap (λ r. r.kind) new))
          (Contains-push_cases seen row other there);
    }
