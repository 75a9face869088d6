-- The item at a place of the items that are kept.
use Rattle.std.proofs.Common.{◌≡◌, ℕ, ◌<◌, Bool, true, false, cond, List, length, map, get_or, slice_get, Option, Some, None, option_map, refl, sym, ap, ◌∙◌, arith}
use Rattle.std.proofs.lemmas.List.{length-map}
use Rattle.std.proofs.lemmas.Option.{slice_get-get_or, slice_get-map}
use Rattle.json.proofs.Found.{Some_inj}
use Rattle.mds_core.specs.Reported.{Reported}
use Rattle.mds_core.specs.declared.request.Request.{Request}
use Rattle.mds_core.specs.declared.request.Request.TheVariants.{Report}
use Rattle.mds_batch.specs.declared.item.ItemFault.{ItemFault}
use Rattle.mds_batch.specs.declared.item.EventItem.{EventItem}
use Rattle.mds_batch.specs.declared.item.EventItem.TheVariants.{Event, Fault}
use Rattle.mds_batch.specs.declared.kept.KeptItem.{KeptItem}
use Rattle.mds_batch.specs.Asking.{event_fault, kept_fault, report_in}
use Rattle.mds_pieces.proofs.Strings.{never}

module _ (kept : List KeptItem) (items : List EventItem) (at : ℕ) (one : KeptItem) (same : map kept_fault kept ≡ map event_fault items) (within : at < length items) (is : one ≡ get_or kept at one) where
  -- what is wrong with the item is told by what is kept of it
  pub told : option_map event_fault (slice_get items at) ≡ Some (kept_fault one)
  told =
      let there : at < length kept = omega (arith, within, length-map kept kept_fault, length-map items event_fault, ap length same) in
      sym (slice_get-map event_fault items at) ∙ ap (λ l. slice_get l at) (sym same) ∙ slice_get-map kept_fault kept at
      ∙ ap (option_map kept_fault) (slice_get-get_or kept at one there ∙ ap Some (sym is))

  pub fault_there : (fault : ItemFault) → kept_fault one ≡ Some fault → slice_get items at ≡ Some (Fault fault)
  fault_there fault e = go (slice_get items at) (told ∙ ap Some e)
    where
      go : (o : Option EventItem) → option_map event_fault o ≡ Some (Some fault) → o ≡ Some (Fault fault)
      go None k = absurd (never k)
      go (Some (Event reported)) k = absurd (never (Some_inj None (Some fault) k))
      go (Some (Fault own)) k = ap (λ f. Some (Fault f)) (Some_inj own fault (Some_inj (Some own) (Some fault) k))

  pub no_fault_there : (item : EventItem) → kept_fault one ≡ None → slice_get items at ≡ Some item → event_fault item ≡ None
  no_fault_there item e there = Some_inj (event_fault item) None (ap (option_map event_fault) (sym there) ∙ told ∙ ap Some e)

-- an item with which nothing is wrong is the event that is asked for
pub asks_for : (item : EventItem) (asked : Bool) (request : Request) → event_fault item ≡ None → report_in item ≡ cond asked (Some request) None
    → (reported : Reported) × (item ≡ Event reported) × (request ≡ Report reported)
asks_for (Fault fault) asked request h e = absurd (never (sym h))
asks_for (Event reported) true request h e = (reported, refl, sym (Some_inj (Report reported) request e))
asks_for (Event reported) false request h e = absurd (never (sym e))
