-- What a provider reports of a vehicle.
use Rattle.std.specs.Prelude.{ℕ, ◌≤◌, List, length, Option}
use Rattle.mds_table.specs.declared.state.State.{State}
use Rattle.mds_table.specs.Json.{max_time}
use Rattle.mds_core.specs.declared.key.Key.{Key}
use Rattle.mds_core.specs.declared.position.Position.{Position}

-- an event as a provider reports it
pub record Reported : Type 0 where
  pub key : Key
  pub id : List ℕ
  pub state : State
  pub types : List (List ℕ)
  pub time : ℕ
  pub position : Option Position

-- the most types of an event
abbrev pub max_event_types : ℕ
max_event_types = 64

-- at least one type and not too many, and a time not past the latest
pub record MayBeReported (types : List (List ℕ)) (time : ℕ) : Type 0 where
  pub some : 1 ≤ length types
  pub few : length types ≤ max_event_types
  pub in_range : time ≤ max_time
