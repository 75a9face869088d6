-- What a shard keeps beside its history.
use Rattle.std.specs.Prelude.{◌≡◌, ℕ, ◌≤◌, ◌++◌, ◌∷◌, ◌||◌, ◌&&◌, Bool, false, List, []}
use Rattle.std.specs.Prelude.{length, take, drop, Option, Some, None, slice_get}
use Rattle.std.specs.List.{list_any}
use Rattle.mds_table.specs.Tables.{Tables}
use Rattle.mds_core.specs.declared.key.Key.{Key}
use Rattle.mds_core.specs.declared.event_name.EventName.{EventName}
use Rattle.mds_core.specs.declared.request.Request.{Request}
use Rattle.mds_core.specs.declared.request.Request.TheVariants.{Register, Report, Look}
use Rattle.mds_core.specs.History.{key_of, same_key, same_event}
use Rattle.mds_core.specs.History.{requests_of, has_event, standing_of}
use Rattle.mds_core.specs.Lawful.{IsLawful}
use Rattle.mds_known.specs.Kept.{value_of}
use Rattle.mds_shard.specs.declared.vehicle.Vehicle.{Vehicle}

-- what is kept of the vehicles
abbrev pub Vehicles : Type 0
Vehicles = List (Key × Vehicle)

-- at this place of the history stands the last request about the vehicle
pub record IsLastPlace (history : List Request) (key : Key) (place : ℕ) : Type 0 where
  pub request : Request
  pub about : key_of request ≡ key
  pub is : slice_get history place ≡ Some request
  pub last : requests_of history key ≡ requests_of (take place history) key ++ request ∷ []

-- the place of the last request about the vehicle, if there is one
abbrev pub IsLastPlaceIf : List Request → Key → Option ℕ → Type 0
IsLastPlaceIf history key None = requests_of history key ≡ []
IsLastPlaceIf history key (Some place) = IsLastPlace history key place

-- the least place of the history behind which no request is about the vehicle
pub record IsEndOf (history : List Request) (key : Key) (end : ℕ) : Type 0 where
  pub none : requests_of (drop end history) key ≡ []
  pub least : (place : ℕ) → requests_of (drop place history) key ≡ [] → end ≤ place

-- what is kept of a vehicle: nothing where it isn't registered, else where it stands and the place
-- of its last request
abbrev pub IsVehicle : List Request → Key → Option Vehicle → Type 0
IsVehicle history key None = requests_of history key ≡ []
IsVehicle history key (Some vehicle) =
    (vehicle.standing ≡ standing_of (requests_of history key))
    × IsLastPlace history key vehicle.last

-- beside each request of the history stands the place of the request about its vehicle before it
pub record AreBefore (history : List Request) (before : List (Option ℕ)) : Type 0 where
  pub count : length before ≡ length history
  pub each : (place : ℕ) (request : Request) (earlier : Option ℕ)
      → slice_get history place ≡ Some request → slice_get before place ≡ Some earlier
      → IsLastPlaceIf (take place history) (key_of request) earlier

-- the name of the event that a request reports is there
abbrev pub has_name : List EventName → Request → Bool
has_name names (Register key) = false
has_name names (Report event) =
    list_any (same_event (record { key = event.key; id = event.id })) names
has_name names (Look key) = false

-- the name of the event that a request reports is kept beside those that were
abbrev pub AddsName : Request → List EventName → List EventName → Type 0
AddsName request old new =
    (name : EventName)
    → list_any (same_event name) new
    ≡ (list_any (same_event name) old
    || (same_key (key_of request) name.key && has_event (request ∷ []) name.id))

-- the history is lawful, and what is kept beside it is what it says of each vehicle
pub record IsReplay (tables : Tables) (history : List Request) (before : List (Option ℕ))
    (vehicles : Vehicles) (names : List EventName) : Type 0 where
  pub lawful : IsLawful tables history
  pub places : AreBefore history before
  pub standings : (key : Key) → IsVehicle history key (value_of vehicles key)
  pub held : (name : EventName)
      → list_any (same_event name) names ≡ has_event (requests_of history name.key) name.id
