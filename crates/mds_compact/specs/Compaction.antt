-- What may be left out of a history.
use Rattle.std.specs.Prelude.{◌≡◌, ◌⊎◌, ℕ, ◌≤◌, List, [], ◌∷◌, length, filter}
use Rattle.std.specs.Prelude.{Bool, true, false, cond, not, nat_le, ◌||◌, Option}
use Rattle.std.specs.List.{filter_map}
use Rattle.mds_table.specs.declared.state.State.{State}
use Rattle.mds_table.specs.declared.state.State.TheVariants.{Removed}
use Rattle.mds_core.specs.declared.key.Key.{Key}
use Rattle.mds_core.specs.declared.request.Request.{Request}
use Rattle.mds_core.specs.declared.request.Request.TheVariants.{Register, Report, Look}
use Rattle.mds_core.specs.History.{requests_of, reports, state_of, has_event}
use Rattle.mds_core.specs.History.{last_time, last_position, is_late}

-- what is kept of a list by a mark for each of its items: of a history, or of the lines that tell
-- it
abbrev pub kept_of : {A : Type 0} → List Bool → List A → List A
kept_of [] all = []
kept_of (mark ∷ marks) [] = []
kept_of (mark ∷ marks) (item ∷ rest) = cond mark (item ∷ kept_of marks rest) (kept_of marks rest)

-- the state that a vehicle holds after one more request about it
abbrev pub held_after : State → Request → State
held_after held (Register key) = held
held_after held (Report event) = event.state
held_after held (Look key) = held

-- the request reports an event
abbrev pub IsReport : Request → Type 0
IsReport (Register key) = ⊥
IsReport (Report event) = Unit {0}
IsReport (Look key) = ⊥

-- Of a vehicle's requests `old`, those of `new` are kept, in their order. Before them all that came
-- led to the state `held`, and what was kept of it to the state `kept`. A request is kept only
-- where the two are one state, so that what is left out between two that are kept is a loop. Only
-- events are left out.
abbrev pub CutsLoops : State → State → List Request → List Request → Type 0
CutsLoops held kept [] [] = Unit {0}
CutsLoops held kept [] (first ∷ new) = ⊥
CutsLoops held kept (request ∷ old) [] =
    IsReport request × CutsLoops (held_after held request) kept old []
CutsLoops held kept (request ∷ old) (first ∷ new) =
    ((first ≡ request) × (held ≡ kept)
    × CutsLoops (held_after held request) (held_after kept request) old new)
    ⊎ (IsReport request × CutsLoops (held_after held request) kept old (first ∷ new))

-- an event of this time has to stay: it's of the time `from` or later, or not before the vehicle's
-- last event, which is of the time `last`
abbrev pub is_recent : ℕ → Option ℕ → ℕ → Bool
is_recent from last time = nat_le from time || not (is_late last time)

-- the request has to stay: it's a recent event, or none
abbrev pub has_to_stay : ℕ → Option ℕ → Request → Bool
has_to_stay from last (Register key) = true
has_to_stay from last (Report event) = is_recent from last event.time
has_to_stay from last (Look key) = true

-- of a vehicle's requests `old` those of `new` are left: loops are cut, the vehicle stands as it
-- did, and what has to stay is there
pub record IsCompacted (from : ℕ) (old new : List Request) : Type 0 where
  pub cuts : CutsLoops Removed Removed old new
  pub state : state_of new ≡ state_of old
  pub last : last_time new ≡ last_time old
  pub position : last_position new ≡ last_position old
  pub stay : filter (has_to_stay from (last_time old)) new
      ≡ filter (has_to_stay from (last_time old)) old

-- so it is of each vehicle's requests
abbrev pub IsCompaction : ℕ → List Request → List Request → Type 0
IsCompaction from old new =
    (key : Key) → IsCompacted from (requests_of old key) (requests_of new key)

-- how many of the requests are there that don't have to stay
abbrev pub thinned_count : ℕ → Option ℕ → List Request → ℕ
thinned_count from last requests =
    length (filter (λ request. not (has_to_stay from last request)) requests)

-- enough is gone: of each vehicle's events that don't have to stay at most 17 are left
abbrev pub IsThin : ℕ → List Request → List Request → Type 0
IsThin from old new =
    (key : Key) → thinned_count from (last_time (requests_of old key)) (requests_of new key) ≤ 17

-- the request reports an event whose identifier was left out
abbrev pub HasLeftOut : List Request → List Request → Request → Type 0
HasLeftOut old new (Register key) = ⊥
HasLeftOut old new (Report event) =
    (has_event (requests_of old event.key) event.id ≡ true)
    × (has_event (requests_of new event.key) event.id ≡ false)
HasLeftOut old new (Look key) = ⊥

-- how many of the events carry a position
abbrev pub position_count : List Request → ℕ
position_count requests = length (filter_map (λ event. event.position) (reports requests))
