-- What an item of a batch is, by its vehicle or what is wrong with it.
use Rattle.std.proofs.Common.{◌≡◌, List, [], ◌∷◌, ◌++◌, map, Some, None, refl, sym, ◌∙◌, ap}
use Rattle.std.proofs.lemmas.List.{append-nil}
use Rattle.std.proofs.lemmas.Simd.{map-map}
use Rattle.indexmap.specs.IndexSet.{insert_key}
use Rattle.mds_core.specs.declared.key.Key.{Key}
use Rattle.mds_core.specs.History.{same_key}
use Rattle.mds_batch.specs.Asking.{event_fault, kept_fault, vehicle_in}
use Rattle.mds_batch.specs.declared.item.EventItem.{EventItem}
use Rattle.mds_batch.specs.declared.item.EventItem.TheVariants.{Event, Fault as Faulty}
use Rattle.mds_batch.specs.declared.item.ItemFault.TheVariants.{NotObject}
use Rattle.mds_batch.specs.declared.kept.KeptItem.{KeptItem}
use Rattle.mds_trace.specs.declared.report.Verdict.TheVariants.{Fault}
use Rattle.mds_trace.specs.Items.{events_of, vehicles_of}
use Rattle.mds_trace.specs.Parts.{line_before, line_by}
use Rattle.mds_trace.proofs.Mentions.{events-push, vehicles-push}

-- the vehicles that items mention, with one more that is an event of this vehicle
pub vehicle_more : (items : List EventItem) (item : EventItem) (key : Key) → Some key ≡ vehicle_in item
    → vehicles_of (events_of (items ++ item ∷ [])) ≡ insert_key same_key (vehicles_of (events_of items)) key
vehicle_more items (Event event) key is =
    let same : event.key ≡ key = (cc) in
    ap vehicles_of (events-push items (Event event)) ∙ vehicles-push (events_of items) event ∙ ap (λ key. insert_key same_key (vehicles_of (events_of items)) key) same
vehicle_more items (Faulty fault) key is = absurd (cc)

-- one that is no event mentions no vehicle
pub none_more : (items : List EventItem) (item : EventItem) → None ≡ vehicle_in item → vehicles_of (events_of (items ++ item ∷ [])) ≡ vehicles_of (events_of items)
none_more items (Event event) is = absurd (cc)
none_more items (Faulty fault) is = ap vehicles_of (events-push items (Faulty fault) ∙ append-nil (events_of items))

-- the lines of items, by what is wrong with each
lines_by : (items : List EventItem) → map line_by (map event_fault items) ≡ map line_before items
lines_by [] = refl
lines_by (Event event ∷ items) = ap (λ rest. Fault NotObject ∷ rest) (lines_by items)
lines_by (Faulty fault ∷ items) = ap (λ rest. Fault fault ∷ rest) (lines_by items)

-- and by what is kept of them
pub lines_kept : (kept : List KeptItem) (items : List EventItem) → map kept_fault kept ≡ map event_fault items
    → map (λ one. line_by (kept_fault one)) kept ≡ map line_before items
lines_kept kept items same = sym (map-map line_by kept_fault kept) ∙ ap (map line_by) same ∙ lines_by items
