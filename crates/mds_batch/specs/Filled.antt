-- What is kept of a value while it is read, and of which members or items it is kept.
use Rattle.std.specs.Prelude.{◌≡◌, ◌≤◌, ◌++◌, codes, ℕ, ℤ, List, length, Bool, true}
use Rattle.std.specs.Prelude.{false, Option, Some, None, option_map, option_and_then}
use Rattle.serde_json.specs.Data.{Data, Members}
use Rattle.serde_json.specs.Find.{get_member, as_number, as_i64}
use Rattle.mds_core.specs.Reported.{max_event_types}
use Rattle.mds_table.specs.Json.{state_in, time_in}
use Rattle.mds_batch.specs.declared.slot.Slot.{Slot}
use Rattle.mds_batch.specs.declared.location.LocationFields.{LocationFields}
use Rattle.mds_batch.specs.declared.types.TypeList.{TypeList}
use Rattle.mds_batch.specs.declared.vehicle.VehicleFields.{VehicleFields}
use Rattle.mds_batch.specs.declared.event.EventFields.{EventFields}
use Rattle.mds_batch.specs.declared.member.Member.TheVariants.{ProviderId, DeviceId, EventId}
use Rattle.mds_batch.specs.declared.member.Member.TheVariants.{VehicleState, EventTypes}
use Rattle.mds_batch.specs.declared.member.Member.TheVariants.{Timestamp, LocationE7}
use Rattle.mds_batch.specs.Member.{member_name}
use Rattle.mds_batch.specs.Forms.{uuid_in, types_in, all_types, few_types}
use Rattle.mds_batch.specs.Items.{position_or_null}
use Rattle.mds_batch.specs.Slot.{found_in}

-- the whole number that a value is
abbrev pub whole_number_in : Data → Option ℤ
whole_number_in value = option_and_then as_i64 (as_number value)

-- the members of a position
pub record HoldsLocation (found : Members) (fields : LocationFields) : Type 0 where
  pub lat : found_in fields.lat ≡ option_map whole_number_in (get_member (codes "lat") found)
  pub lng : found_in fields.lng ≡ option_map whole_number_in (get_member (codes "lng") found)

-- the items of a list of types: its names are theirs, or no list that begins with them is one of
-- few types
abbrev pub AreNamesOf : Bool → List Data → List (List ℕ) → Type 0
AreNamesOf true items names = (all_types items ≡ Some names) × (length items ≤ max_event_types)
AreNamesOf false items names = (more : List Data) → few_types (items ++ more) ≡ None

abbrev pub HoldsTypes : List Data → TypeList → Type 0
HoldsTypes items list = AreNamesOf list.is_whole items list.names.items

-- the types that were found
abbrev pub types_found : Slot Unit → TypeList → Option (Option (List (List ℕ)))
types_found there list = option_map (option_map (λ is. list.names.items)) (found_in there)

-- the members of a registration
pub record HoldsVehicle (found : Members) (fields : VehicleFields) : Type 0 where
  pub provider : found_in fields.provider
      ≡ option_map uuid_in (get_member (member_name ProviderId) found)
  pub device : found_in fields.device ≡ option_map uuid_in (get_member (member_name DeviceId) found)

-- the members of an event
pub record HoldsEvent (found : Members) (fields : EventFields) : Type 0 where
  pub vehicle : HoldsVehicle found fields.vehicle
  pub id : found_in fields.id ≡ option_map uuid_in (get_member (member_name EventId) found)
  pub state : found_in fields.state
      ≡ option_map state_in (get_member (member_name VehicleState) found)
  pub types : types_found fields.has_types fields.types
      ≡ option_map types_in (get_member (member_name EventTypes) found)
  pub time : found_in fields.time ≡ option_map time_in (get_member (member_name Timestamp) found)
  pub position : found_in fields.position
      ≡ option_map position_or_null (get_member (member_name LocationE7) found)
