-- The data of a line are members in their forms.
use Rattle.std.proofs.Common.{◌≡◌, ℕ, ◌<◌, ◌≤◌, ◌^◌, ℤ, pos, negsuc, ◌-ℤ◌, ◌≤ℤ◌, T, Bool, true, false, suc, length, List, [], ◌∷◌, Option, Some, None, inl, refl, ap, sym, All}
use Rattle.std.proofs.lemmas.Bool.{and_from, le-leb, lt-ltb}
use Rattle.std.proofs.lemmas.List.Elements.{recursion_from_All}
use Rattle.std.specs.List.{AllByRecursion}
use Rattle.std.specs.Int.Signed.{mag}
use Rattle.serde_json.specs.Find.{of_integer, as_i64}
use Rattle.uuid.specs.Text.{hyphenated_text, lower, parsed}
use Rattle.uuid.proofs.RoundTrips.{parses_hyphenated}
use Rattle.mds_table.specs.declared.state.State.{State}
use Rattle.mds_table.specs.declared.state.State.TheVariants.{Removed, Available, NonOperational, Reserved, OnTrip, Elsewhere, NonContactable, Missing, InDepot}
use Rattle.mds_table.specs.State.{name_of}
use Rattle.mds_table.specs.TypeName.{IsTypeName, is_type_name}
use Rattle.mds_table.specs.Json.{max_time, state_of_name, items_in}
use Rattle.mds_core.specs.declared.key.Key.{Key}
use Rattle.mds_core.specs.declared.position.Position.{Position}
use Rattle.mds_core.specs.Position.{max_latitude, max_longitude}
use Rattle.mds_core.specs.Reported.{Reported, max_event_types}
use Rattle.mds_batch.specs.declared.item.EventItem.TheVariants as event
use Rattle.mds_batch.specs.declared.item.ItemFault.TheVariants as fault
use Rattle.mds_batch.specs.declared.member.Member.TheVariants.{EventId}
use Rattle.mds_batch.specs.Forms.{all_types, few_types, is_within}
use Rattle.mds_batch.specs.Items.{position_or_null, IsKeyOf, IsEventOf, IsEventItem}
use Rattle.mds_entries.specs.Whole.{AreUuidBytes, IsWholeKey, IsWholeEvent, IsPlace}
use Rattle.mds_entries.proofs.LineData.{type_items, position_data, registration_data, event_data}
use Rattle.mds_entries.proofs.LineRead.{lat_fits, lng_fits}

uuid_parsed : (bytes : List ℕ) → AreUuidBytes bytes → parsed (hyphenated_text lower bytes) ≡ Some bytes
uuid_parsed bytes is = sym (parses_hyphenated lower bytes (inl refl) is.count is.each)

state_named : (state : State) → state_of_name (name_of state) ≡ Some state
state_named Removed = refl
state_named Available = refl
state_named NonOperational = refl
state_named Reserved = refl
state_named OnTrip = refl
state_named Elsewhere = refl
state_named NonContactable = refl
state_named Missing = refl
state_named InDepot = refl

-- ---- types

name_tested : (name : List ℕ) → IsTypeName name → is_type_name name ≡ true
name_tested name is = and_from _ _ (and_from _ _ (le-leb 1 (length name) is.some) (le-leb (length name) 32 is.short)) is.bytes

names_listed : (names : List (List ℕ)) → AllByRecursion IsTypeName names → all_types (items_in (type_items names)) ≡ Some names
names_listed [] are = refl
names_listed (name ∷ names) are = rw (names_listed names are.1, name_tested name are.0) refl

length-type_items : (names : List (List ℕ)) → length (items_in (type_items names)) ≡ length names
length-type_items [] = refl
length-type_items (name ∷ names) = ap suc (length-type_items names)

types_taken : (names : List (List ℕ)) → All IsTypeName names → 1 ≤ length names → length names ≤ max_event_types → few_types (items_in (type_items names)) ≡ Some names
types_taken names are some few =
    rw (length-type_items names, le-leb 1 (length names) some, le-leb (length names) max_event_types few) (names_listed names (recursion_from_All IsTypeName names are))

-- ---- positions

true_from : (b : Bool) → T b → b ≡ true
true_from true holds = refl
true_from false holds = absurd holds

within : (most : ℕ) (z : ℤ) → (pos 0 -ℤ pos most) ≤ℤ z → z ≤ℤ pos most → is_within most z ≡ true
within most z low high = and_from _ _ (true_from _ low.le) (true_from _ high.le)

whole_read : (z : ℤ) → mag z < 2 ^ 63 → as_i64 (of_integer z) ≡ Some z
whole_read (pos n) fits = rw (lt-ltb n (2 ^ 63) fits) refl
whole_read (negsuc n) fits = refl

position_taken : (position : Option Position) → IsPlace position → position_or_null (position_data position) ≡ Some position
position_taken None is = refl
position_taken (Some position) is =
    let lat = whole_read position.lat (lat_fits position.lat position.lng is) in
    let lng = whole_read position.lng (lng_fits position.lat position.lng is) in
    rw (lat, lng, within max_latitude position.lat is.south is.north, within max_longitude position.lng is.west is.east) refl

-- ---- items

pub key_told : (key : Key) → IsWholeKey key → IsKeyOf (registration_data key) key
key_told key is = record { provider = uuid_parsed key.provider is.provider; device = uuid_parsed key.device is.device }

-- and no event, for want of its identifier
pub no_event_told : (key : Key) → IsWholeKey key → IsEventItem (registration_data key) (event.Fault (fault.Missing EventId))
unfolding IsEventItem
no_event_told key is = rw (uuid_parsed key.provider is.provider, uuid_parsed key.device is.device) refl

pub event_told : (event : Reported) → IsWholeEvent event → IsEventOf (event_data event) event
event_told event is = record {
  provider = uuid_parsed event.key.provider is.key.provider;
  device = uuid_parsed event.key.device is.key.device;
  id = uuid_parsed event.id is.id;
  state = state_named event.state;
  types = types_taken event.types is.types is.reported.some is.reported.few;
  time = rw (le-leb event.time max_time is.reported.in_range) refl;
  position = position_taken event.position is.place;
}
