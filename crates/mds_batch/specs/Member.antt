-- The members of an item.
use Rattle.std.specs.Prelude.{ℕ, List, codes}
use Rattle.mds_batch.specs.declared.member.Member.{Member}
use Rattle.mds_batch.specs.declared.member.Member.TheVariants.{ProviderId, DeviceId, EventId}
use Rattle.mds_batch.specs.declared.member.Member.TheVariants.{VehicleState, EventTypes}
use Rattle.mds_batch.specs.declared.member.Member.TheVariants.{Timestamp, LocationE7}

-- the name of a member, as a text of JSON has it
abbrev pub member_name : Member → List ℕ
member_name ProviderId = codes "provider_id"
member_name DeviceId = codes "device_id"
member_name EventId = codes "event_id"
member_name VehicleState = codes "vehicle_state"
member_name EventTypes = codes "event_types"
member_name Timestamp = codes "timestamp"
member_name LocationE7 = codes "location_e7"
