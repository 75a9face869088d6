-- The first of the chains of an event, by state codes.
use Rattle.std.specs.Prelude.{◌≡◌, ◌<◌, ◌≤◌, ◌⊎◌, ℕ, List, [], ◌∷◌, Option, Some, None, Contains}
use Rattle.mds_table.specs.declared.state.State.{State}
use Rattle.mds_table.specs.declared.row.Row.{Row}
use Rattle.mds_table.specs.Row.{row_of}
use Rattle.mds_table.specs.State.{code_of}
use Rattle.mds_table.specs.Chain.{IsChain}

-- of two lists of as many states, the one isn't after the other by state codes, position by
-- position
abbrev pub IsNotAfter : List State → List State → Type 0
IsNotAfter [] [] = Unit {0}
IsNotAfter (one ∷ ones) (other ∷ others) =
    (code_of one < code_of other) ⊎ ((one ≡ other) × IsNotAfter ones others)
IsNotAfter [] (other ∷ others) = ⊥
IsNotAfter (one ∷ ones) [] = ⊥

-- a chain of an event, and no other chain stands before it
pub record IsLeastChain (rows : List Row) (held : State) (kinds : List (List ℕ)) (reported : State)
    (chain : List State) : Type 0 where
  pub chain_is : IsChain rows held kinds reported chain
  pub least : (other : List State) → IsChain rows held kinds reported other → IsNotAfter chain other

-- the state of a set with the lowest code to which a row of the type leads from this state, if
-- there is one
abbrev pub IsLeastNext : List Row → State → List ℕ → List State → Option State → Type 0
IsLeastNext rows from kind set None =
    (to : State) → Contains set to → Contains rows (row_of from kind to) → ⊥
IsLeastNext rows from kind set (Some next) =
    Contains set next × Contains rows (row_of from kind next)
    × ((to : State)
    → Contains set to → Contains rows (row_of from kind to) → code_of next ≤ code_of to)
