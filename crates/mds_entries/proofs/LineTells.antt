-- The line that a request is laid out as tells that request.
use Rattle.std.proofs.Common.{◌≡◌, ℕ, zero, suc, List, [], ◌∷◌, Some, refl, sym, subst, arith, slice_get, IsUtf8}
use Rattle.serde_json.specs.Data.{Data}
use Rattle.mds_table.specs.Json.{IsShortTextOf}
use Rattle.mds_core.specs.declared.key.Key.{Key}
use Rattle.mds_core.specs.declared.request.Request.{Request}
use Rattle.mds_core.specs.declared.request.Request.TheVariants.{Register, Report, Look}
use Rattle.mds_core.specs.Reported.{Reported}
use Rattle.mds_batch.specs.Texts.{registration_text, event_text}
use Rattle.mds_batch.specs.declared.item.VehicleItem.TheVariants as vehicle
use Rattle.mds_batch.specs.Items.{IsVehicleItem, IsEventItem}
use Rattle.mds_batch.specs.Batch.{AreItemsOf}
use Rattle.std.proofs.lemmas.List.Elements.{recursion_from_All}
use Rattle.mds_table.specs.TypeName.{IsTypeName}
use Rattle.mds_entries.specs.Whole.{IsWholeKey, IsWholeEvent, IsWhole}
use Rattle.mds_entries.specs.Entry.{Tells, line_of}
use Rattle.mds_entries.proofs.LineData.{registration_data, event_data, registration_text-compact, event_text-compact}
use Rattle.mds_entries.proofs.LineRead.{registration_read, event_read}
use Rattle.mds_entries.proofs.LineTold.{key_told, no_event_told, event_told}
use Rattle.mds_entries.proofs.LineLength.{length-registration, length-event}

-- one value and the item that it is
one_item : {A : Type 0} (IsItemOf : Data → A → Type 0) (value : Data) (item : A) → IsItemOf value item → AreItemsOf IsItemOf (value ∷ []) (item ∷ [])
one_item {A = A} IsItemOf value item is = record { count = refl; each = at } where
  at : (place : ℕ) (v : Data) (i : A) → slice_get (value ∷ []) place ≡ Some v → slice_get (item ∷ []) place ≡ Some i → IsItemOf v i
  at zero v i here there =
      let same : value ≡ v = cc in
      let one : item ≡ i = cc in
      subst (λ w. IsItemOf w i) same (subst (λ j. IsItemOf value j) one is)
  at (suc place) v i here there = absurd cc

key_line : (key : Key) → IsUtf8 (registration_text key) → IsWholeKey key → Tells (registration_text key) (Register key)
unfolding IsVehicleItem
key_line key utf8 is =
    let value = registration_data key in
    let text : IsShortTextOf value (registration_text key) = (length-registration key, (utf8, rw (registration_text-compact key) (registration_read key))) in
    let told : IsVehicleItem value (vehicle.Vehicle key) = key_told key is in
    ((value, text, no_event_told key is), (value, value ∷ [], text, refl, omega arith, one_item IsVehicleItem value (vehicle.Vehicle key) told))

event_line : (reported : Reported) → IsUtf8 (event_text reported) → IsWholeEvent reported → Tells (event_text reported) (Report reported)
unfolding IsEventItem
event_line reported utf8 is =
    let value = event_data reported in
    let names = recursion_from_All IsTypeName reported.types is.types in
    let text : IsShortTextOf value (event_text reported) =
    (length-event reported is, (utf8, rw (event_text-compact reported names) (event_read reported is.reported.in_range is.place))) in
    (value, text, event_told reported is)

pub line_tells : (request : Request) (line : List ℕ) → line_of request ≡ Some line → IsUtf8 line → IsWhole request → Tells line request
line_tells (Register key) line is utf8 whole =
    let same : registration_text key ≡ line = cc in
    subst (λ text. Tells text (Register key)) same (key_line key (subst IsUtf8 (sym same) utf8) whole)
line_tells (Report reported) line is utf8 whole =
    let same : event_text reported ≡ line = cc in
    subst (λ text. Tells text (Report reported)) same (event_line reported (subst IsUtf8 (sym same) utf8) whole)
line_tells (Look key) line is utf8 whole = absurd cc
