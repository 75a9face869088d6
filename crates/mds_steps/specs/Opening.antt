-- The states from which an event leads to the state that it reports.
use Rattle.std.specs.Prelude.{◌≡◌, ◌↔◌, ℕ, ◌+◌, List, length, drop, slice_index_or, Contains}
use Rattle.mds_table.specs.declared.state.State.{State}
use Rattle.mds_table.specs.declared.row.Row.{Row}
use Rattle.mds_table.specs.Chain.{Leads}

-- an event with these types leads from this state to the one that it reports
abbrev pub IsOpening : List Row → List (List ℕ) → State → State → Type 0
IsOpening rows kinds reported from = Leads rows from kinds reported

-- a set has the states from which an event with these types leads to the one that it reports
abbrev pub AreOpenings : List Row → List (List ℕ) → State → List State → Type 0
AreOpenings rows kinds reported openings =
    (from : State) → Contains openings from ↔ IsOpening rows kinds reported from

-- of each number of the last types of an event, a set has the openings
pub record AreOpeningsOfEnds (rows : List Row) (kinds : List (List ℕ)) (reported : State)
    (sets : List (List State)) : Type 0 where
  pub count : length sets ≡ length kinds + 1
  pub each : (at n : ℕ) (d : List State)
      → at + n ≡ length kinds → AreOpenings rows (drop at kinds) reported (slice_index_or sets n d)
