-- What is kept of vehicles, and of the names of their events.
use Rattle.std.specs.Prelude.{◌≡◌, ℕ, ◌<◌, ◌≤◌, ◌^◌, cond, List, length, slice_get}
use Rattle.std.specs.Prelude.{[], Option, Some}
use Rattle.std.specs.List.{All, IsDistinct}
use Rattle.std.specs.Map.{lookup}
use Rattle.mds_core.specs.declared.key.Key.{Key}
use Rattle.mds_core.specs.declared.event_name.EventName.{EventName}
use Rattle.mds_core.specs.History.{same_key, key_at}
use Rattle.mds_known.specs.declared.own_name.OwnName.{OwnName}

-- what is kept of each vehicle, in the order in which the vehicles came; the names of their events,
-- in their order; and for how many further names there is memory for certain
pub record KeptVehicles (V : Type 0) : Type 0 where
  pub entries : List (Key × V)
  pub names : List EventName
  pub room : ℕ

-- what is kept of a vehicle, if anything is
abbrev pub value_of : {V : Type 0} → List (Key × V) → Key → Option V
value_of entries key = lookup (same_key key) entries

-- this holds of the name that an event of the vehicle at this place has by its identifier
abbrev pub OfName : {V : Type 0} → List (Key × V) → ℕ → List ℕ → (EventName → Type 0) → Type 0
OfName {V} entries place id Is =
    (key : Key) (value : V)
    → slice_get entries place ≡ Some (key, value)
    → Is (record { key = key; id = id })

-- of this vehicle the value is kept, and of every other what was
abbrev pub PutsValue : {V : Type 0} → Key → V → List (Key × V) → List (Key × V) → Type 0
PutsValue key value old new =
    (other : Key) → value_of new other ≡ cond (same_key key other) (Some value) (value_of old other)

-- the vehicles and names are the same, whatever room there is
pub record AreSame {V : Type 0} (old new : KeptVehicles V) : Type 0 where
  pub entries : new.entries ≡ old.entries
  pub names : new.names ≡ old.names

-- the name for which one stands that names the vehicle by its place among these keys
abbrev pub name_at : List Key → OwnName → EventName
name_at keys own = record { key = key_at keys own.vehicle; id = own.id }

-- no vehicle stands at two places, each name is of a vehicle that is there, and each place has a
-- number of 32 bits
pub record AreOwn (keys : List Key) (names : List OwnName) : Type 0 where
  pub apart : IsDistinct same_key keys
  pub within : All (λ own. own.vehicle < length keys) names
  pub few : length keys ≤ 2 ^ 32
