-- How far an event gets from a set of states.
use Rattle.std.specs.Prelude.{ℕ, ◌+◌, ◌<◌, ◌≤◌, List, length, Contains}
use Rattle.mds_table.specs.declared.state.State.{State}
use Rattle.mds_table.specs.declared.row.Row.{Row}
use Rattle.mds_table.specs.Chain.{Passes}

-- rows lead from a state of the set through the first n types to some state
abbrev pub PassesFrom : List Row → List State → List (List ℕ) → ℕ → Type 0
PassesFrom rows set kinds n = (from : State) × Contains set from × Passes rows from kinds n

-- the first type that no chain from a state of the set passes, or the number of types where all can
-- be passed
pub record IsStuckFrom (rows : List Row) (set : List State) (kinds : List (List ℕ)) (at : ℕ)
    : Type 0 where
  pub within : at ≤ length kinds
  pub passed : (n : ℕ) → n < at → PassesFrom rows set kinds (n + 1)
  pub stuck : at < length kinds → PassesFrom rows set kinds (at + 1) → ⊥
