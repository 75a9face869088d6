-- Sessions: a vehicle's events, one after the other, and type by type within an event.
use Rattle.std.specs.Prelude.{◌≡◌, ◌≢◌, ◌↔◌, ◌⊎◌, ◌<◌, ◌≤◌, ◌+◌, ◌-◌, ℕ, zero}
use Rattle.std.specs.Prelude.{suc, List, [], ◌∷◌, length, map, take, Contains}
use Rattle.std.specs.Prelude.{Option, Some, None, slice_get, slice_index_or}
use Rattle.std.specs.List.{All, AllPairs}
use Rattle.std.specs.Option.{option_map_or}
use Rattle.mds_table.specs.declared.state.State.{State}
use Rattle.mds_table.specs.declared.row.Row.{Row}
use Rattle.mds_table.specs.Tables.{Tables, rows_at}
use Rattle.mds_table.specs.Chain.{Leads}
use Rattle.mds_steps.specs.LeastChain.{IsLeastChain}
use Rattle.mds_steps.specs.Reached.{AreReached}
use Rattle.mds_core.specs.Reported.{Reported}
use Rattle.mds_core.specs.Answer.{HasNoChain}
use Rattle.mds_trace.specs.declared.session.Place.{Place}
use Rattle.mds_trace.specs.declared.session_fault.SessionFault.{SessionFault}
use Rattle.mds_trace.specs.declared.session_fault.SessionFault.TheVariants.{Memory, Unlawful}
use Rattle.mds_trace.specs.declared.session_fault.SessionFault.TheVariants.{BadOrder}
use Rattle.mds_trace.specs.Walk.{Walk}

-- the state held before the event at a place: that of the event before it, or the opening state
-- before the first
abbrev pub held_at : State → List Reported → ℕ → State
held_at opening events zero = opening
held_at opening events (suc i) = option_map_or (λ event. event.state) (slice_get events i) opening

-- the types of the event at a place; none at the end
abbrev pub types_at : List Reported → ℕ → List (List ℕ)
types_at events i = option_map_or (λ event. event.types) (slice_get events i) []

-- the time of the event at a place; 0 at the end, where no type is passed and no row is asked for
abbrev pub time_at : List Reported → ℕ → ℕ
time_at events i = option_map_or (λ event. event.time) (slice_get events i) 0

-- of two events the one may stand before the other: they are of one vehicle, have different
-- identifiers, and the time doesn't fall
pub record MayPrecede (before after : Reported) : Type 0 where
  pub key : before.key ≡ after.key
  pub id : before.id ≢ after.id
  pub time : before.time ≤ after.time

-- each event may stand before each later one
abbrev pub AreInOrder : List Reported → Type 0
AreInOrder events = AllPairs MayPrecede events

-- rows in force at the time of each event lead from the state held before it to the state that it
-- reports
abbrev pub EachLeads : Tables → State → List Reported → Type 0
EachLeads tables opening events =
    (i : ℕ) (event : Reported) → slice_get events i ≡ Some event
    → Leads (rows_at tables event.time) (held_at opening events i) event.types event.state

-- a session may be opened over these events, with this state held before them
pub record AreOpenFrom (tables : Tables) (opening : State) (events : List Reported) : Type 0 where
  pub order : AreInOrder events
  pub lead : EachLeads tables opening events

-- the first faulty event, and what is wrong with it: its order among the events before it, or else
-- that no rows lead
abbrev pub IsFaultOf : Tables → State → List Reported → SessionFault → Type 0
IsFaultOf tables opening events Memory = Unit {0}
IsFaultOf tables opening events (BadOrder at) =
    (at < length events) × AreOpenFrom tables opening (take at events)
    × (AreInOrder (take (at + 1) events) → ⊥)
IsFaultOf tables opening events (Unlawful at stuck) =
    AreOpenFrom tables opening (take at events) × AreInOrder (take (at + 1) events)
    × ((event : Reported) × (slice_get events at ≡ Some event)
    × HasNoChain (rows_at tables event.time) (held_at opening events at) event stuck)

-- a place: an event of the list and at most all of its types passed, or the end
pub record IsPlace (events : List Reported) (place : Place) : Type 0 where
  pub event : place.event ≤ length events
  pub passed : place.passed ≤ length (types_at events place.event)

-- one set for no type passed, and one for each that is: the i-th is what the first i types reach
-- from the state held
pub record AreSets (rows : List Row) (held : State) (kinds : List (List ℕ)) (passed : ℕ)
    (sets : List (List State)) : Type 0 where
  pub count : length sets ≡ passed + 1
  pub each : (i : ℕ) (d : List State)
      → i ≤ passed → AreReached rows (held ∷ []) (take i kinds) (slice_index_or sets i d)

-- a session stands at a place of events over which it may be opened, and keeps the sets of the
-- present event up to there
pub record IsWalk (tables : Tables) (opening : State) (events : List Reported) (place : Place)
    (sets : List (List State)) : Type 0 where
  pub open_from : AreOpenFrom tables opening events
  pub within : IsPlace events place
  pub kept : AreSets (rows_at tables (time_at events place.event))
      (held_at opening events place.event) (types_at events place.event) place.passed sets

-- from one place to the next: one more type is passed, or after the last type the next event comes
abbrev pub IsStep : List Reported → Place → Place → Type 0
IsStep events from to =
    ((from.passed < length (types_at events from.event))
    × (to ≡ record { event = from.event; passed = from.passed + 1 }))
    ⊎ ((from.event < length events) × (from.passed ≡ length (types_at events from.event))
    × (to ≡ record { event = from.event + 1; passed = 0 }))

-- the state held before the present event
abbrev pub state_at : Walk → State
state_at walk = held_at walk.opening walk.events walk.place.event

-- the rows in force at the time of the present event
abbrev pub present_rows : Walk → List Row
present_rows walk = rows_at walk.tables (time_at walk.events walk.place.event)

-- a set has the states to which types lead from a state by these rows
abbrev pub ArePossibleAfter : List Row → State → List (List ℕ) → List State → Type 0
ArePossibleAfter rows held kinds set = (to : State) → Contains set to ↔ Leads rows held kinds to

-- the states possible at the place: those to which the types passed lead from the state held before
-- the present event
abbrev pub ArePossible : Walk → List State → Type 0
ArePossible walk set =
    ArePossibleAfter (present_rows walk) (state_at walk)
    (take walk.place.passed (types_at walk.events walk.place.event)) set

-- the least chain of the present event
abbrev pub IsPresentChain : Walk → List State → Type 0
IsPresentChain walk chain =
    (event : Reported) × (slice_get walk.events walk.place.event ≡ Some event)
    × IsLeastChain (rows_at walk.tables event.time) (state_at walk) event.types event.state chain

-- the first place before an event, or at the end, that comes later and at which the state is held
pub record IsFirstLater (walk : Walk) (state : State) (place : Place) : Type 0 where
  pub passed : place.passed ≡ 0
  pub later : walk.place.event < place.event
  pub within : place.event ≤ length walk.events
  pub held : held_at walk.opening walk.events place.event ≡ state
  pub first : (i : ℕ)
      → walk.place.event < i → i < place.event → held_at walk.opening walk.events i ≢ state

-- a move changes the place alone
pub record KeepsEvents (old new : Walk) : Type 0 where
  pub tables : new.tables ≡ old.tables
  pub opening : new.opening ≡ old.opening
  pub events : new.events ≡ old.events

-- the identifiers of events, in their order
abbrev pub identifiers_of : List Reported → List (List ℕ)
identifiers_of events = map (λ event. event.id) events

-- no earlier event has the identifier
abbrev pub IsNewAfter : List Reported → Reported → Type 0
IsNewAfter before event = All (λ earlier. earlier.id ≢ event.id) before

-- two events are of one vehicle, and the second isn't earlier
pub record ComesNext (last event : Reported) : Type 0 where
  pub key : last.key ≡ event.key
  pub time : last.time ≤ event.time

-- an event comes next after the last of the events before it, if there are any
abbrev pub FollowsOn : List Reported → Reported → Type 0
FollowsOn before event =
    (last : Reported) → slice_get before (length before - 1) ≡ Some last → ComesNext last event

-- the place of the first event from a place on that reports the state, if there is one
abbrev pub IsFirstReporting : List Reported → ℕ → State → Option ℕ → Type 0
IsFirstReporting events from state None =
    (i : ℕ) (event : Reported) → from ≤ i → slice_get events i ≡ Some event → event.state ≢ state
IsFirstReporting events from state (Some at) =
    (from ≤ at) × ((event : Reported) × (slice_get events at ≡ Some event) × (event.state ≡ state))
    × ((i : ℕ) (event : Reported)
    → from ≤ i → i < at → slice_get events i ≡ Some event → event.state ≢ state)
