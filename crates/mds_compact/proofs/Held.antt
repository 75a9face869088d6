-- What one more request about a vehicle changes of where it stands.
use Rattle.std.proofs.Common.{◌≡◌, List, [], ◌∷◌, ◌++◌, ℕ, Option, Some, None, refl, ap}
use Rattle.std.specs.List.{last_or}
use Rattle.std.specs.Option.{option_or, option_map_or}
use Rattle.mds_table.specs.declared.state.State.{State}
use Rattle.mds_table.specs.declared.state.State.TheVariants.{Removed}
use Rattle.mds_core.specs.declared.position.Position.{Position}
use Rattle.mds_core.specs.declared.request.Request.{Request}
use Rattle.mds_core.specs.declared.request.Request.TheVariants.{Register, Report, Look}
use Rattle.mds_core.specs.Reported.{Reported}
use Rattle.mds_core.specs.History.{reports, state_of, last_time, last_position}
use Rattle.mds_core.proofs.Standings.{state_of-push, standing_of-push, standing_of-push_none}
use Rattle.mds_compact.specs.Compaction.{held_after}

-- the state held after requests, one after another
abbrev pub through : State → List Request → State
through held [] = held
through held (request ∷ rest) = through (held_after held request) rest

held_by : (last : Option Reported) (requests : List Request)
    → option_map_or (λ event. event.state) (last_or last (reports requests)) Removed ≡ through (option_map_or (λ event. event.state) last Removed) requests
held_by last [] = refl
held_by last (Register key ∷ rest) = held_by last rest
held_by last (Report event ∷ rest) = held_by (Some event) rest
held_by last (Look key ∷ rest) = held_by last rest

-- the state that a vehicle holds, one request after another
pub state_through : (requests : List Request) → state_of requests ≡ through Removed requests
state_through requests = held_by None requests

pub through-append : (held : State) (first second : List Request) → through held (first ++ second) ≡ through (through held first) second
through-append held [] second = refl
through-append held (request ∷ first) second = through-append (held_after held request) first second

-- the state after one more request
pub state_of-more : (requests : List Request) (request : Request) → state_of (requests ++ request ∷ []) ≡ held_after (state_of requests) request
state_of-more requests (Register key) = ap (λ standing. standing.state) (standing_of-push_none requests (Register key) refl)
state_of-more requests (Report event) = state_of-push requests event
state_of-more requests (Look key) = ap (λ standing. standing.state) (standing_of-push_none requests (Look key) refl)

-- the time of the last event after one more request
abbrev pub time_after : Option ℕ → Request → Option ℕ
time_after last (Register key) = last
time_after last (Report event) = Some event.time
time_after last (Look key) = last

pub last_time-more : (requests : List Request) (request : Request) → last_time (requests ++ request ∷ []) ≡ time_after (last_time requests) request
last_time-more requests (Register key) = ap (λ standing. standing.last) (standing_of-push_none requests (Register key) refl)
last_time-more requests (Report event) = ap (λ standing. standing.last) (standing_of-push requests event)
last_time-more requests (Look key) = ap (λ standing. standing.last) (standing_of-push_none requests (Look key) refl)

-- the position that a request reports, if it reports one
abbrev pub position_in : Request → Option Position
position_in (Register key) = None
position_in (Report event) = event.position
position_in (Look key) = None

pub last_position-more : (requests : List Request) (request : Request) → last_position (requests ++ request ∷ []) ≡ option_or (position_in request) (last_position requests)
last_position-more requests (Register key) = ap (λ standing. standing.position) (standing_of-push_none requests (Register key) refl)
last_position-more requests (Report event) = ap (λ standing. standing.position) (standing_of-push requests event)
last_position-more requests (Look key) = ap (λ standing. standing.position) (standing_of-push_none requests (Look key) refl)
