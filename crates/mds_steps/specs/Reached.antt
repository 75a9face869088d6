-- The states in which chains from a set of states end.
use Rattle.std.specs.Prelude.{◌↔◌, ℕ, List, Contains}
use Rattle.mds_table.specs.declared.state.State.{State}
use Rattle.mds_table.specs.declared.row.Row.{Row}
use Rattle.mds_table.specs.Chain.{Leads}

-- a set has the states in which chains from the members of another end
abbrev pub AreReached : List Row → List State → List (List ℕ) → List State → Type 0
AreReached rows set kinds reached =
    (to : State)
    → Contains reached to ↔ ((from : State) × Contains set from × Leads rows from kinds to)
