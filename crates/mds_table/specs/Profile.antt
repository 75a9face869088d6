-- The table of this project's profile, as its printed lines.
use Rattle.std.specs.Prelude.{ℕ, List, [], ◌∷◌, codes, map}
use Rattle.std.specs.List.{flat_map}
use Rattle.mds_table.specs.declared.state.State.{State}
use Rattle.mds_table.specs.declared.state.State.TheVariants.{Removed, Available, NonOperational}
use Rattle.mds_table.specs.declared.state.State.TheVariants.{Reserved, OnTrip, Elsewhere}
use Rattle.mds_table.specs.declared.state.State.TheVariants.{NonContactable, Missing}
use Rattle.mds_table.specs.declared.row.Row.{Row}
use Rattle.mds_table.specs.Row.{row_of}

-- a printed line: it stands for all pairs of a state of the first list and a state of the second
pub record Line : Type 0 where
  pub kind : List ℕ
  pub from : List State
  pub to : List State

abbrev pub line : List ℕ → List State → List State → Line
line kind from to = record { kind = kind; from = from; to = to }

-- the rows that a line stands for
abbrev pub rows_of_line : Line → List Row
rows_of_line l = flat_map (λ from. map (λ to. row_of from l.kind to) l.to) l.from

-- the states of a vehicle that is deployed and in no rider's hands
abbrev pub parked_states : List State
parked_states = Available ∷ NonOperational ∷ Elsewhere ∷ NonContactable ∷ Missing ∷ []

-- the states in which a vehicle is heard of
abbrev pub heard_states : List State
heard_states = Removed ∷ Available ∷ NonOperational ∷ Reserved ∷ OnTrip ∷ Elsewhere ∷ []

abbrev pub one : State → List State
one state = state ∷ []

abbrev pub two : State → State → List State
two a b = a ∷ b ∷ []

-- the profile, line by line
abbrev pub profile_lines : List Line
profile_lines =
    line (codes "agency_drop_off") (one Removed) (one Available)
    ∷ line (codes "agency_pick_up") parked_states (one Removed)
    ∷ line (codes "battery_charged") (one NonOperational) (one Available)
    ∷ line (codes "battery_low") (one Available) (one NonOperational)
    ∷ line (codes "changed_geographies") (two Available NonOperational) (one Elsewhere)
    ∷ line (codes "changed_geographies") (one Elsewhere) (two Available NonOperational)
    ∷ line (codes "comms_lost") heard_states (one NonContactable)
    ∷ line (codes "comms_restored") (one NonContactable) heard_states
    ∷ line (codes "compliance_pick_up") parked_states (one Removed)
    ∷ line (codes "decommissioned") (Removed ∷ parked_states) (one Removed)
    ∷ line (codes "located") (one Missing) heard_states
    ∷ line (codes "maintenance") (one Available) (one NonOperational)
    ∷ line (codes "maintenance_pick_up") parked_states (one Removed)
    ∷ line (codes "not_located")
    (Available ∷ NonOperational ∷ Reserved ∷ OnTrip ∷ Elsewhere ∷ NonContactable ∷ []) (one Missing)
    ∷ line (codes "off_hours") (one Available) (one NonOperational)
    ∷ line (codes "on_hours") (one NonOperational) (one Available)
    ∷ line (codes "provider_drop_off") (one Removed) (one Available)
    ∷ line (codes "rebalance_pick_up") parked_states (one Removed)
    ∷ line (codes "reservation_cancel") (one Reserved) (one Available)
    ∷ line (codes "reservation_start") (one Available) (one Reserved)
    ∷ line (codes "system_resume") (one NonOperational) (one Available)
    ∷ line (codes "system_suspend") (one Available) (one NonOperational)
    ∷ line (codes "trip_cancel") (two Reserved OnTrip) (one Available)
    ∷ line (codes "trip_end") (one OnTrip) (one Available)
    ∷ line (codes "trip_enter_jurisdiction") (one Elsewhere) (one OnTrip)
    ∷ line (codes "trip_leave_jurisdiction") (one OnTrip) (one Elsewhere)
    ∷ line (codes "trip_start") (two Available Reserved) (one OnTrip)
    ∷ line (codes "unspecified") (one Available) (one NonOperational)
    ∷ line (codes "unspecified") (one NonOperational) (one Available) ∷ []

-- the rows of the profile
abbrev pub profile_rows : List Row
profile_rows = flat_map rows_of_line profile_lines
