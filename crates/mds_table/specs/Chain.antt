-- The states that an event goes through, one step by a row for each of its types.
use Rattle.std.specs.Prelude.{◌≡◌, ℕ, ◌+◌, ◌<◌, ◌≤◌, List, [], ◌∷◌}
use Rattle.std.specs.Prelude.{length, take, Contains, Some, slice_get}
use Rattle.mds_table.specs.declared.state.State.{State}
use Rattle.mds_table.specs.declared.row.Row.{Row}
use Rattle.mds_table.specs.Row.{row_of}

-- A chain from the state held to the state reported: without a type it is the state held, which is
-- the one reported; else it goes on, by a row of the first type, with a chain of the other types
-- from the state that the row leads to.
abbrev pub IsChain : List Row → State → List (List ℕ) → State → List State → Type 0
IsChain rows held [] reported chain = (chain ≡ held ∷ []) × (held ≡ reported)
IsChain rows held (kind ∷ kinds) reported chain =
    (next : State) × (rest : List State) × (chain ≡ held ∷ rest)
    × Contains rows (row_of held kind next) × IsChain rows next kinds reported rest

-- The same by places: one more state than types, the first the one held, the last the one reported,
-- and each step by a row of its type.
pub record IsChainByPlaces (rows : List Row) (held : State) (kinds : List (List ℕ))
    (reported : State) (chain : List State) : Type 0 where
  pub count : length chain ≡ length kinds + 1
  pub first : slice_get chain 0 ≡ Some held
  pub last : slice_get chain (length kinds) ≡ Some reported
  pub steps : (i : ℕ) (from to : State) (kind : List ℕ)
      → slice_get chain i ≡ Some from → slice_get kinds i ≡ Some kind
      → slice_get chain (i + 1) ≡ Some to
      → Contains rows (row_of from kind to)

-- rows lead, one for each type in order, from the state held to the state reported
abbrev pub Leads : List Row → State → List (List ℕ) → State → Type 0
Leads rows held kinds reported = (chain : List State) × IsChain rows held kinds reported chain

-- rows lead from the state held through the first n types to some state
abbrev pub Passes : List Row → State → List (List ℕ) → ℕ → Type 0
Passes rows held kinds n = (reported : State) × Leads rows held (take n kinds) reported

-- The place at which an event gets stuck: its first type that no chain passes, or the number of its
-- types where all can be passed and only the reported state can't be reached.
pub record IsStuckAt (rows : List Row) (held : State) (kinds : List (List ℕ)) (at : ℕ)
    : Type 0 where
  pub within : at ≤ length kinds
  pub passed : (n : ℕ) → n ≤ at → Passes rows held kinds n
  pub stuck : at < length kinds → Passes rows held kinds (at + 1) → ⊥

-- a chain is the same, step by step and by places
abbrev pub ChainsGoByPlaces : Type 0
ChainsGoByPlaces =
    (rows : List Row) (held : State) (kinds : List (List ℕ)) (reported : State) (chain : List State)
    → (IsChain rows held kinds reported chain → IsChainByPlaces rows held kinds reported chain)
    × (IsChainByPlaces rows held kinds reported chain → IsChain rows held kinds reported chain)
