-- What a value of a batch stands for: a vehicle's key, an event, or what is wrong with it.
use Rattle.std.specs.Prelude.{◌≡◌, codes, ℕ, List, [], ◌∷◌, ◌++◌, Bool, Option, Some, None}
use Rattle.std.specs.Prelude.{is_some, is_none, option_map, option_and_then, find, if◌then◌else◌}
use Rattle.serde_json.specs.Data.{Data}
use Rattle.serde_json.specs.Find.{get, as_null, as_object}
use Rattle.mds_table.specs.Json.{state_in, time_in}
use Rattle.mds_core.specs.declared.key.Key.{Key}
use Rattle.mds_core.specs.declared.position.Position.{Position}
use Rattle.mds_core.specs.Reported.{Reported}
use Rattle.mds_batch.specs.declared.member.Member.{Member}
use Rattle.mds_batch.specs.declared.member.Member.TheVariants.{ProviderId, DeviceId, EventId}
use Rattle.mds_batch.specs.declared.member.Member.TheVariants.{VehicleState, EventTypes}
use Rattle.mds_batch.specs.declared.member.Member.TheVariants.{Timestamp, LocationE7}
use Rattle.mds_batch.specs.declared.item.ItemFault.{ItemFault}
use Rattle.mds_batch.specs.declared.item.ItemFault.TheVariants.{NotObject, Missing, Bad}
use Rattle.mds_batch.specs.declared.item.VehicleItem.{VehicleItem}
use Rattle.mds_batch.specs.declared.item.VehicleItem.TheVariants as vehicle
use Rattle.mds_batch.specs.declared.item.EventItem.{EventItem}
use Rattle.mds_batch.specs.declared.item.EventItem.TheVariants as event
use Rattle.mds_batch.specs.Member.{member_name}
use Rattle.mds_batch.specs.Forms.{uuid_in, types_in, position_of}

-- what a member stands for, where it is there and has this form
abbrev pub member_in : {A : Type 0} → Member → (Data → Option A) → Data → Option A
member_in member form value = option_and_then form (get (member_name member) value)

-- the position that the value of a member gives: none where it is null
abbrev pub position_or_null : Data → Option (Option Position)
position_or_null value =
    if is_some (as_null value) then Some None else option_map Some (position_of value)

-- the position of an event: none where the member isn't there
abbrev pub position_in : Data → Option (Option Position)
position_in value =
    if is_some (get (member_name LocationE7) value) then member_in LocationE7 position_or_null value
    else Some None

-- the vehicle that a value is about
pub record IsKeyOf (value : Data) (key : Key) : Type 0 where
  pub provider : member_in ProviderId uuid_in value ≡ Some key.provider
  pub device : member_in DeviceId uuid_in value ≡ Some key.device

-- the event that a value reports
pub record IsEventOf (value : Data) (event : Reported) : Type 0 where
  pub provider : member_in ProviderId uuid_in value ≡ Some event.key.provider
  pub device : member_in DeviceId uuid_in value ≡ Some event.key.device
  pub id : member_in EventId uuid_in value ≡ Some event.id
  pub state : member_in VehicleState state_in value ≡ Some event.state
  pub types : member_in EventTypes types_in value ≡ Some event.types
  pub time : member_in Timestamp time_in value ≡ Some event.time
  pub position : position_in value ≡ Some event.position

-- the members of a registration, in the order in which faults are looked for
abbrev pub vehicle_members : List Member
vehicle_members = ProviderId ∷ DeviceId ∷ []

-- the members of an event, in that order
abbrev pub event_members : List Member
event_members = vehicle_members ++ EventId ∷ VehicleState ∷ EventTypes ∷ Timestamp ∷ LocationE7 ∷ []

-- a member of a value is not as it should be
abbrev pub is_faulty : Data → Member → Bool
is_faulty value ProviderId = is_none (member_in ProviderId uuid_in value)
is_faulty value DeviceId = is_none (member_in DeviceId uuid_in value)
is_faulty value EventId = is_none (member_in EventId uuid_in value)
is_faulty value VehicleState = is_none (member_in VehicleState state_in value)
is_faulty value EventTypes = is_none (member_in EventTypes types_in value)
is_faulty value Timestamp = is_none (member_in Timestamp time_in value)
is_faulty value LocationE7 = is_none (position_in value)

-- what is wrong with a faulty member: it is bad where it is there, and else missing
abbrev pub fault_at : Data → Member → ItemFault
fault_at value member =
    if is_some (get (member_name member) value) then Bad member else Missing member

-- what is wrong with a value, if anything is: it is no object, or what is wrong with the first
-- faulty one of the members asked for
abbrev pub fault_of : List Member → Data → Option ItemFault
fault_of asked value =
    if is_some (as_object value) then option_map (fault_at value) (find (is_faulty value) asked)
    else Some NotObject

-- the vehicle or the fault that a value of a batch is
unfoldable pub IsVehicleItem : Data → VehicleItem → Type 0
IsVehicleItem value (vehicle.Vehicle key) = IsKeyOf value key
IsVehicleItem value (vehicle.Fault fault) = fault_of vehicle_members value ≡ Some fault

-- the event or the fault that a value of a batch is
unfoldable pub IsEventItem : Data → EventItem → Type 0
IsEventItem value (event.Event reported) = IsEventOf value reported
IsEventItem value (event.Fault fault) = fault_of event_members value ≡ Some fault

-- the word for a fault
abbrev pub item_fault_word : ItemFault → List ℕ
item_fault_word NotObject = codes "not_object"
item_fault_word (Missing member) = codes "missing_param"
item_fault_word (Bad member) = codes "bad_param"

-- the words for a fault: its own, and the name of the member that is at fault
abbrev pub item_fault_text : ItemFault → List ℕ
item_fault_text NotObject = item_fault_word NotObject
item_fault_text (Missing member) =
    item_fault_word (Missing member) ++ codes " " ++ member_name member
item_fault_text (Bad member) = item_fault_word (Bad member) ++ codes " " ++ member_name member
