-- One step of an event, from a set of states to a set of states.
use Rattle.std.specs.Prelude.{◌↔◌, ℕ, List, Contains}
use Rattle.mds_table.specs.declared.state.State.{State}
use Rattle.mds_table.specs.declared.row.Row.{Row}
use Rattle.mds_table.specs.Row.{row_of}

-- a row of the type leads from a state of the set to this state
abbrev pub IsNext : List Row → List State → List ℕ → State → Type 0
IsNext rows set kind to = (from : State) × Contains set from × Contains rows (row_of from kind to)

-- the states to which rows of the type lead from a state of the set
abbrev pub AreNext : List Row → List State → List ℕ → List State → Type 0
AreNext rows set kind next = (to : State) → Contains next to ↔ IsNext rows set kind to

-- a row of the type leads from this state to a state of the set
abbrev pub IsPrevious : List Row → List State → List ℕ → State → Type 0
IsPrevious rows set kind from = (to : State) × Contains set to × Contains rows (row_of from kind to)

-- the states from which rows of the type lead to a state of the set
abbrev pub ArePrevious : List Row → List State → List ℕ → List State → Type 0
ArePrevious rows set kind previous =
    (from : State) → Contains previous from ↔ IsPrevious rows set kind from
