-- What is kept of items, as more names come behind the others.
use Rattle.std.proofs.Common.{◌≡◌, ℕ, ◌+◌, ◌<◌, ◌≤◌, ◌++◌, List, [], ◌∷◌, length, drop, get_or, map, slice_get, Option, Some, None, Result, Ok, Err, OnErr, refl, sym, ap, subst, ◌∙◌, arith}
use Rattle.std.specs.List.{All}
use Rattle.std.proofs.lemmas.List.{take-append-le, drop-append-le, length-drop, length-append, length-map, map-append, append_assoc}
use Rattle.std.proofs.lemmas.List.Elements.{All-weaker, All-head, All-tail, All-push}
use Rattle.std.proofs.lemmas.Option.{slice_get-map, slice_get_read}
use Rattle.mds_core.specs.Reported.{MayBeReported}
use Rattle.mds_batch.specs.Asking.{event_fault, kept_fault}
use Rattle.mds_batch.specs.Told.{reported_by}
use Rattle.mds_batch.specs.Kept.{types_at, item_in, IsKept}
use Rattle.mds_batch.specs.declared.item.EventItem.{EventItem}
use Rattle.mds_batch.specs.declared.item.EventItem.TheVariants.{Event}
use Rattle.mds_batch.specs.declared.item.ItemFault.{ItemFault}
use Rattle.mds_batch.specs.declared.kept.KeptEvent.{KeptEvent}
use Rattle.mds_batch.specs.declared.kept.KeptItem.{KeptItem}
use Rattle.mds_batch.specs.declared.kept.KeptItem.TheVariants as kept

-- with more names behind them
module _ (names more : List (List ℕ)) where
  same_types : (event : KeptEvent) → event.first + event.count ≤ length names → types_at (names ++ more) event ≡ types_at names event
  same_types event within =
      rw (drop-append-le event.first names more (omega (arith, within)))
      (take-append-le event.count (drop event.first names) more (omega (arith, within, length-drop event.first names)))

  same_item : (one : KeptItem) → IsKept names one → item_in (names ++ more) one ≡ item_in names one
  same_item (kept.Event event) is = ap (λ (types : List (List ℕ)). Event (reported_by event.told types)) (same_types event is.within)
  same_item (kept.Fault fault) is = refl

  still_kept : (one : KeptItem) → IsKept names one → IsKept (names ++ more) one
  still_kept (kept.Event event) is = record {
    within = omega (arith, is.within, length-append names more);
    reported = subst (λ (types : List (List ℕ)). MayBeReported types event.told.time) (sym (same_types event is.within)) is.reported;
  }
  still_kept (kept.Fault fault) is = tt

  pub all_still_kept : (all : List KeptItem) → All (IsKept names) all → All (IsKept (names ++ more)) all
  all_still_kept all are = All-weaker (IsKept names) (IsKept (names ++ more)) still_kept all are

  pub same_items : (all : List KeptItem) → All (IsKept names) all → map (item_in (names ++ more)) all ≡ map (item_in names) all
  same_items [] are = refl
  same_items (one ∷ all) are =
      ap (λ (item : EventItem). item ∷ map (item_in (names ++ more)) all) (same_item one (All-head (IsKept names) one all are))
      ∙ ap (λ (rest : List EventItem). item_in names one ∷ rest) (same_items all (All-tail (IsKept names) one all are))

-- the same of names that have grown
module _ (names grown : List (List ℕ)) (all : List KeptItem) (more : (more : List (List ℕ)) × (grown ≡ names ++ more)) (are : All (IsKept names) all) where
  pub kept_all : All (IsKept grown) all
  kept_all = rw more.1 (all_still_kept names more.0 all are)

  pub kept_more : (one : KeptItem) → IsKept grown one → All (IsKept grown) (all ++ one ∷ [])
  kept_more one is = All-push (IsKept grown) all one kept_all is

  module _ (items before later : List EventItem) (view : map (item_in names) all ≡ items) (same : items ≡ before ++ later) where
    pub items_stay : map (item_in grown) all ≡ before ++ later
    items_stay =
        let stay : map (item_in grown) all ≡ map (item_in names) all = rw more.1 (same_items names more.0 all are) in
        stay ∙ view ∙ same

    pub items_more : (one : KeptItem) (item : EventItem) → item_in grown one ≡ item → map (item_in grown) (all ++ one ∷ []) ≡ before ++ (later ++ item ∷ [])
    items_more one item is =
        map-append (item_in grown) all (one ∷ [])
        ∙ ap (λ (front : List EventItem). front ++ item_in grown one ∷ []) items_stay
        ∙ ap (λ (last : EventItem). (before ++ later) ++ last ∷ []) is
        ∙ append_assoc before later (item ∷ [])

-- what holds anyway holds where there is an error
pub on_err : {T E : Type 0} (r : Result T E) (P : Type 0) → P → OnErr r P
on_err (Ok value) P holds = tt
on_err (Err error) P holds = holds

-- the faults of what is kept are those of the items
pub same_faults : (names : List (List ℕ)) (all : List KeptItem) → map kept_fault all ≡ map event_fault (map (item_in names) all)
same_faults names [] = refl
same_faults names (kept.Event event ∷ all) = ap (λ (rest : List (Option ItemFault)). None ∷ rest) (same_faults names all)
same_faults names (kept.Fault fault ∷ all) = ap (λ (rest : List (Option ItemFault)). Some fault ∷ rest) (same_faults names all)

-- the item at a place is that of which something is kept there
pub item_at : (names : List (List ℕ)) (all : List KeptItem) (items : List EventItem) (at : ℕ) (read one : KeptItem) → map (item_in names) all ≡ items
    → at < length items → read ≡ get_or all at read → read ≡ one → slice_get items at ≡ Some (item_in names one)
item_at names all items at read one view within is same =
    let inside : at < length all = omega (arith, within, ap length view, length-map all (item_in names)) in
    rw (← view, slice_get-map (item_in names) all at, slice_get_read all (length all) at read refl inside is, same) refl
