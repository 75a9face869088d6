-- One request for each line.
use Rattle.std.proofs.Common.{◌≡◌, ◌≢◌, ◌∙◌, ℕ, List, [], ◌∷◌, Some, inl, refl, sym, subst, arith}
use Rattle.mds_core.specs.declared.request.Request.TheVariants.{Register, Report, Look}
use Rattle.mds_batch.specs.declared.batch.BatchFault.{BatchFault}
use Rattle.mds_batch.specs.declared.batch.BatchFault.TheVariants as batch
use Rattle.mds_batch.specs.declared.item.EventItem.{EventItem}
use Rattle.mds_batch.specs.declared.item.EventItem.TheVariants as event
use Rattle.mds_batch.specs.declared.item.VehicleItem.{VehicleItem}
use Rattle.mds_batch.specs.declared.item.VehicleItem.TheVariants as vehicle
use Rattle.mds_batch.specs.declared.item.ItemFault.{ItemFault}
use Rattle.mds_batch.specs.declared.item.ItemFault.TheVariants.{Missing}
use Rattle.mds_batch.specs.declared.member.Member.TheVariants.{EventId}
use Rattle.mds_batch.specs.Items.{IsVehicleItem, IsEventItem}
use Rattle.mds_batch.specs.Batch.{HasItems, HasFault, IsItemText, HasItemFault}
use Rattle.mds_batch.proofs.ItemLaws.{one_event_item, one_vehicle_item}
use Rattle.mds_batch.proofs.BatchLaws.{one_list, batches_have_no_fault}
use Rattle.mds_core.specs.declared.key.Key.{Key}
use Rattle.mds_entries.specs.declared.entry.EntryFault.TheVariants.{BadLine}
use Rattle.mds_entries.specs.Entry.{IsFaultOfLine, fault_of_text}
use Rattle.mds_entries.specs.Laws.{LinesTellOneRequest}

-- a text is one item of events
pub one_item : (line : List ℕ) (a b : EventItem) → IsItemText IsEventItem line a → IsItemText IsEventItem line b → a ≡ b
one_item line a b is are =
    let texts : Some is.0 ≡ Some are.0 = sym is.1.1.1 ∙ are.1.1.1 in
    let same : is.0 ≡ are.0 = cc in
    one_event_item are.0 a b (subst (λ value. IsEventItem value a) same is.2) are.2

-- a line tells one request
pub lines_tell_one_request : LinesTellOneRequest
lines_tell_one_request line (Report a) (Report b) is are =
    let same : event.Event a ≡ event.Event b = one_item line (event.Event a) (event.Event b) is are in cc
lines_tell_one_request line (Register a) (Register b) is are =
    let same : vehicle.Vehicle a ∷ [] ≡ vehicle.Vehicle b ∷ [] = one_list IsVehicleItem one_vehicle_item line _ _ is.1 are.1 in cc
lines_tell_one_request line (Report a) (Register b) is are =
    let same : event.Event a ≡ event.Fault (Missing EventId) = one_item line _ _ is are.0 in cc
lines_tell_one_request line (Register a) (Report b) is are =
    let same : event.Fault (Missing EventId) ≡ event.Event b = one_item line _ _ is.0 are in cc
lines_tell_one_request line (Look a) other is are = absurd is
lines_tell_one_request line (Report a) (Look b) is are = absurd are
lines_tell_one_request line (Register a) (Look b) is are = absurd are

-- a line that is another fault of an event tells no request
pub fault_tells_none : (line : List ℕ) (fault : ItemFault) → IsItemText IsEventItem line (event.Fault fault) → fault ≢ Missing EventId → IsFaultOfLine line BadLine
fault_tells_none line fault is other (Report a) tells = let same : event.Fault fault ≡ event.Event a = one_item line _ _ is tells in cc
fault_tells_none line fault is other (Register a) tells =
    let same : event.Fault fault ≡ event.Fault (Missing EventId) = one_item line _ _ is tells.0 in other cc
fault_tells_none line fault is other (Look a) tells = tells

-- bytes that are no text of an item are none
no_item : (line : List ℕ) (fault : BatchFault) (item : EventItem) → HasItemFault line fault → fault ≢ batch.Memory → IsItemText IsEventItem line item → ⊥
no_item line batch.Memory item has other is = other refl
no_item line batch.TooLong item has other is = omega (arith, has, is.1.0)
no_item line batch.NotJson item has other is = has.1 is.0 is.1.1
no_item line batch.NotList item has other is = has
no_item line batch.TooMany item has other is = has

-- and tell no request
unread : (line : List ℕ) (fault : BatchFault) → HasItemFault line fault → fault ≢ batch.Memory → IsFaultOfLine line BadLine
unread line fault has other (Report a) tells = no_item line fault (event.Event a) has other tells
unread line fault has other (Register a) tells = no_item line fault (event.Fault (Missing EventId)) has other tells.0
unread line fault has other (Look a) tells = tells

pub text_fault : (line : List ℕ) (fault : BatchFault) → HasItemFault line fault → IsFaultOfLine line (fault_of_text fault)
text_fault line batch.Memory has = tt
text_fault line batch.TooLong has = unread line batch.TooLong has (λ same. let no = same in cc)
text_fault line batch.NotJson has = unread line batch.NotJson has (λ same. let no = same in cc)
text_fault line batch.NotList has = unread line batch.NotList has (λ same. let no = same in cc)
text_fault line batch.TooMany has = unread line batch.TooMany has (λ same. let no = same in cc)

module _ (line : List ℕ) (is : IsItemText IsEventItem line (event.Fault (Missing EventId))) where
  no_batch : (fault : BatchFault) → HasFault line fault → fault ≢ batch.Memory → IsFaultOfLine line BadLine
  no_batch fault has other (Report a) tells = let same : event.Fault (Missing EventId) ≡ event.Event a = one_item line _ _ is tells in cc
  no_batch fault has other (Register a) tells = other (batches_have_no_fault line fault (inl (vehicle.Vehicle a ∷ [], tells.1)) has)
  no_batch fault has other (Look a) tells = tells

  -- a line with no identifier of an event that is no batch of registrations tells no request
  pub batch_fault : (fault : BatchFault) → HasFault line fault → IsFaultOfLine line (fault_of_text fault)
  batch_fault batch.Memory has = tt
  batch_fault batch.TooLong has = no_batch batch.TooLong has (λ same. let no = same in cc)
  batch_fault batch.NotJson has = no_batch batch.NotJson has (λ same. let no = same in cc)
  batch_fault batch.NotList has = no_batch batch.NotList has (λ same. let no = same in cc)
  batch_fault batch.TooMany has = no_batch batch.TooMany has (λ same. let no = same in cc)

  -- nor does one whose batch is another than that of one vehicle
  pub batch_tells_none : (items : List VehicleItem) → HasItems IsVehicleItem line items → ((key : Key) → items ≢ vehicle.Vehicle key ∷ []) → IsFaultOfLine line BadLine
  batch_tells_none items has other (Report a) tells = let same : event.Fault (Missing EventId) ≡ event.Event a = one_item line _ _ is tells in cc
  batch_tells_none items has other (Register a) tells = other a (one_list IsVehicleItem one_vehicle_item line items (vehicle.Vehicle a ∷ []) has tells.1)
  batch_tells_none items has other (Look a) tells = tells
