-- The index of a table by types, as the code keeps it.
use Rattle.std.specs.Prelude.{◌≡◌, ◌⊎◌, ℕ, ◌<◌, ◌≤◌, List, length}
use Rattle.std.specs.Prelude.{insert, true, Contains, slice_index_or}
use Rattle.std.specs.declared.cmp.Ordering.{Ordering}
use Rattle.std.specs.Ordering.{nat_cmp}
use Rattle.std.specs.Cmp.Lexicographic.{slice_cmp}
use Rattle.mds_table.specs.declared.row.Row.{Row}
use Rattle.mds_table.specs.declared.moves.Moves.{Moves}
use Rattle.mds_table.specs.Row.{ascends}
use Rattle.mds_table.specs.declared.state.State.{State}
use Rattle.mds_table.specs.Mask.{AreMasks, has_bit, mask_from}

-- by type, byte by byte
abbrev pub moves_cmp : Moves → Moves → Ordering
moves_cmp a b = slice_cmp nat_cmp a.kind b.kind

-- one of the moves is those of this type
abbrev pub HasKind : List Moves → List ℕ → Type 0
HasKind moves kind = (m : Moves) × Contains moves m × (m.kind ≡ kind)

-- at this place are the moves of the type
pub record HasKindAt (moves : List Moves) (kind : List ℕ) (at : ℕ) : Type 0 where
  pub within : at < length moves
  pub is : (d : Moves) → (slice_index_or moves at d).kind ≡ kind

-- moves of the type aren't there, and belong at this place
pub record HasGapAt (moves : List Moves) (kind : List ℕ) (at : ℕ) : Type 0 where
  pub within : at ≤ length moves
  pub none : HasKind moves kind → ⊥
  pub order : (m : Moves) → m.kind ≡ kind → ascends moves_cmp (insert moves at m) ≡ true

-- moves by type, each type once, which say of it what the rows say, and among which is each type of
-- those seen of the rows
pub record AreMoves (rows seen : List Row) (moves : List Moves) : Type 0 where
  pub order : ascends moves_cmp moves ≡ true
  pub masks : (m : Moves) → Contains moves m → AreMasks rows m.kind m.masks
  pub kinds : (row : Row) → Contains seen row → HasKind moves row.kind

-- rows to which some of this type are added
pub record GrowsBy (rows more : List Row) (kind : List ℕ) : Type 0 where
  pub keeps : (row : Row) → Contains rows row → Contains more row
  pub none_else : (row : Row) → Contains more row → Contains rows row ⊎ (row.kind ≡ kind)

-- a row of these moves
pub record IsRowOf (moves : Moves) (row : Row) : Type 0 where
  pub kind : row.kind ≡ moves.kind
  pub to : has_bit (mask_from moves.masks row.from) row.to ≡ true

-- a row of some of the moves
abbrev pub IsRowOfAny : List Moves → Row → Type 0
IsRowOfAny moves row = (m : Moves) × Contains moves m × IsRowOf m row

-- a row of this type from this state to one that the mask has
pub record IsRowOfMask (from : State) (name : List ℕ) (mask : ℕ) (row : Row) : Type 0 where
  pub leaves : row.from ≡ from
  pub kind : row.kind ≡ name
  pub to : has_bit mask row.to ≡ true
