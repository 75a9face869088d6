-- Sets of states as the bits of numbers, and the rows of a type as such numbers.
use Rattle.std.specs.Prelude.{◌≡◌, ◌↔◌, ◌==◌, ℕ, List, Bool, true, Contains, slice_index}
use Rattle.std.specs.Int.{bit_at}
use Rattle.mds_table.specs.declared.state.State.{State}
use Rattle.mds_table.specs.declared.row.Row.{Row}
use Rattle.mds_table.specs.State.{code_of}
use Rattle.mds_table.specs.Row.{row_of}

-- the mask has the state: its bit at the state's code is set
unfoldable pub has_bit : ℕ → State → Bool
has_bit mask state = bit_at mask (code_of state) == 1

-- of masks, one for each state, the one for this state
abbrev pub mask_from : List ℕ → State → ℕ
mask_from masks from = slice_index masks (code_of from)

-- the mask has the states that rows of the type lead to from this state
abbrev pub IsMask : List Row → List ℕ → State → ℕ → Type 0
IsMask rows kind from mask =
    (to : State) → (has_bit mask to ≡ true) ↔ Contains rows (row_of from kind to)

-- the masks have, for each state, the states that rows of the type lead to from it
abbrev pub AreMasks : List Row → List ℕ → List ℕ → Type 0
AreMasks rows kind masks =
    (from to : State)
    → (has_bit (mask_from masks from) to ≡ true) ↔ Contains rows (row_of from kind to)
