-- What is held of members once one more of them was taken.
use Rattle.std.proofs.Common.{◌≡◌, codes, ℕ, List, Bool, true, false, Option, Some, option_map, cond, bytes_eq, refl, sym, ◌∙◌}
use Rattle.std.proofs.lemmas.Bool.{true≢false}
use Rattle.std.proofs.lemmas.Slice.Eq.{bytes_eq-Decides}
use Rattle.serde_json.specs.Data.{Data, Members, put}
use Rattle.serde_json.specs.Find.{get_member}
use Rattle.mds_table.specs.Json.{state_in, time_in}
use Rattle.serde_json.proofs.Views.{get_member-put, get_member-put_other}
use Rattle.mds_batch.specs.declared.location.LocationFields.{LocationFields}
use Rattle.mds_batch.specs.declared.vehicle.VehicleFields.{VehicleFields}
use Rattle.mds_batch.specs.declared.event.EventFields.{EventFields}
use Rattle.mds_batch.specs.declared.member.Member.TheVariants.{ProviderId, DeviceId, EventId, VehicleState, EventTypes, Timestamp, LocationE7}
use Rattle.mds_batch.specs.Member.{member_name}
use Rattle.mds_batch.specs.Forms.{uuid_in, types_in}
use Rattle.mds_batch.specs.Items.{position_or_null}
use Rattle.mds_batch.specs.Slot.{found_in}
use Rattle.mds_batch.specs.Filled.{whole_number_in, types_found, HoldsLocation, HoldsVehicle, HoldsEvent}

-- the value of a member once one was put: that one where it has the name
get_member-put_is : (k name : List ℕ) (value : Data) (found : Members) → get_member k (put name value found) ≡ cond (bytes_eq name k) (Some value) (get_member k found)
get_member-put_is k name value found = read (bytes_eq name k) refl where
  read : (b : Bool) → bytes_eq name k ≡ b → get_member k (put name value found) ≡ cond b (Some value) (get_member k found)
  read true is = rw (← (bytes_eq-Decides name k).0 is) (get_member-put name value found)
  read false is = get_member-put_other k name value found (λ same. true≢false (sym ((bytes_eq-Decides name k).1 (sym same)) ∙ is))

-- a slot has what was put where that has its name, and else what it held
abbrev pub IsPut : {A : Type 0} → (Data → Option A) → List ℕ → List ℕ → Data → Option (Option A) → Option (Option A) → Type 0
IsPut form k name value old new = new ≡ cond (bytes_eq name k) (Some (form value)) old

-- and so it holds what the members then are
pub slot_put : {A : Type 0} (form : Data → Option A) (k name : List ℕ) (value : Data) (found : Members) (old new : Option (Option A))
    → old ≡ option_map form (get_member k found) → IsPut form k name value old new → new ≡ option_map form (get_member k (put name value found))
slot_put form k name value found old new holds is = rw get_member-put_is (is ∙ read (bytes_eq name k)) where
  read : (b : Bool) → cond b (Some (form value)) old ≡ option_map form (cond b (Some value) (get_member k found))
  read true = refl
  read false = holds

-- a name that isn't this one differs from it
pub differs : (name k : List ℕ) → (name ≡ k → ⊥) → bytes_eq name k ≡ false
differs name k other = read (bytes_eq name k) refl where
  read : (b : Bool) → bytes_eq name k ≡ b → b ≡ false
  read true is = absurd (other ((bytes_eq-Decides name k).0 is))
  read false is = refl

-- and one that is found to be the same is this one
pub same_name : (name k : List ℕ) → bytes_eq name k ≡ true → name ≡ k
same_name name k = (bytes_eq-Decides name k).0

-- a position's members once one was put, slot by slot
pub location_put : (name : List ℕ) (value : Data) (found : Members) (old new : LocationFields) → HoldsLocation found old
    → IsPut whole_number_in (codes "lat") name value (found_in old.lat) (found_in new.lat) → IsPut whole_number_in (codes "lng") name value (found_in old.lng) (found_in new.lng)
    → HoldsLocation (put name value found) new
location_put name value found old new holds lat lng = record {
  lat = slot_put whole_number_in (codes "lat") name value found _ _ holds.lat lat;
  lng = slot_put whole_number_in (codes "lng") name value found _ _ holds.lng lng;
}

-- so with those of a registration
pub vehicle_put : (name : List ℕ) (value : Data) (found : Members) (old new : VehicleFields) → HoldsVehicle found old
    → IsPut uuid_in (member_name ProviderId) name value (found_in old.provider) (found_in new.provider)
    → IsPut uuid_in (member_name DeviceId) name value (found_in old.device) (found_in new.device)
    → HoldsVehicle (put name value found) new
vehicle_put name value found old new holds provider device = record {
  provider = slot_put uuid_in (member_name ProviderId) name value found _ _ holds.provider provider;
  device = slot_put uuid_in (member_name DeviceId) name value found _ _ holds.device device;
}

-- and with those of an event
pub event_put : (name : List ℕ) (value : Data) (found : Members) (old new : EventFields) → HoldsEvent found old
    → HoldsVehicle (put name value found) new.vehicle
    → IsPut uuid_in (member_name EventId) name value (found_in old.id) (found_in new.id)
    → IsPut state_in (member_name VehicleState) name value (found_in old.state) (found_in new.state)
    → IsPut types_in (member_name EventTypes) name value (types_found old.has_types old.types) (types_found new.has_types new.types)
    → IsPut time_in (member_name Timestamp) name value (found_in old.time) (found_in new.time)
    → IsPut position_or_null (member_name LocationE7) name value (found_in old.position) (found_in new.position)
    → HoldsEvent (put name value found) new
event_put name value found old new holds vehicle id state types time position = record {
  vehicle = vehicle;
  id = slot_put uuid_in (member_name EventId) name value found _ _ holds.id id;
  state = slot_put state_in (member_name VehicleState) name value found _ _ holds.state state;
  types = slot_put types_in (member_name EventTypes) name value found _ _ holds.types types;
  time = slot_put time_in (member_name Timestamp) name value found _ _ holds.time time;
  position = slot_put position_or_null (member_name LocationE7) name value found _ _ holds.position position;
}
