-- The states of a vehicle: their codes and their names.
use Rattle.std.specs.Prelude.{ℕ, List, codes}
use Rattle.mds_table.specs.declared.state.State.{State}
use Rattle.mds_table.specs.declared.state.State.TheVariants.{Removed, Available, NonOperational}
use Rattle.mds_table.specs.declared.state.State.TheVariants.{Reserved, OnTrip, Elsewhere}
use Rattle.mds_table.specs.declared.state.State.TheVariants.{NonContactable, Missing, InDepot}

-- the code of a state, by which states are ordered
abbrev pub code_of : State → ℕ
code_of Removed = 0
code_of Available = 1
code_of NonOperational = 2
code_of Reserved = 3
code_of OnTrip = 4
code_of Elsewhere = 5
code_of NonContactable = 6
code_of Missing = 7
code_of InDepot = 8

-- the name of a state, in ASCII
abbrev pub name_of : State → List ℕ
name_of Removed = codes "removed"
name_of Available = codes "available"
name_of NonOperational = codes "non_operational"
name_of Reserved = codes "reserved"
name_of OnTrip = codes "on_trip"
name_of Elsewhere = codes "elsewhere"
name_of NonContactable = codes "non_contactable"
name_of Missing = codes "missing"
name_of InDepot = codes "in_depot"
