-- The rows that the entries of a file have so far, as the code keeps them.
use Rattle.std.specs.Prelude.{◌≡◌, ◌⊎◌, ℕ, ◌<◌, List, length, true, Contains}
use Rattle.mds_table.specs.declared.row.Row.{Row}
use Rattle.mds_table.specs.declared.moves.Moves.{Moves}
use Rattle.mds_table.specs.declared.row_set.RowSet.{RowSet}
use Rattle.mds_table.specs.declared.row_set.Tally.{Tally}
use Rattle.mds_table.specs.Row.{in_order}
use Rattle.mds_table.specs.Mask.{AreMasks}
use Rattle.mds_table.specs.Moves.{AreMoves}
use Rattle.mds_table.specs.TableFile.{max_rows}
use Rattle.mds_table.specs.Entry.{Adds}

-- so many rows, or any number past the most rows of a table where there are more than that
abbrev pub IsCountOf : List Row → ℕ → Type 0
IsCountOf rows count = (count ≡ length rows) ⊎ ((max_rows < count) × (max_rows < length rows))

-- rows in order, with those of this type, and how many rows there are
pub record AreTallied (rows : List Row) (kind : List ℕ) (tally : Tally) : Type 0 where
  pub order : in_order rows ≡ true
  pub masks : AreMasks rows kind tally.masks
  pub count : IsCountOf rows tally.count

-- where the one tally is of rows, the other is of those with what P holds of
abbrev pub Grows : List ℕ → Tally → Tally → (Row → Type 0) → Type 0
Grows kind old new P = (rows : List Row) → AreTallied rows kind old
    → (more : List Row) × AreTallied more kind new × Adds rows more P

-- rows in order, where they lead by types, each of which has a row, and how many rows there are
pub record AreSet (rows : List Row) (set : RowSet) : Type 0 where
  pub order : in_order rows ≡ true
  pub moves : AreMoves rows rows set.moves.items
  pub used : (m : Moves) → Contains set.moves.items m
      → (row : Row) × Contains rows row × (row.kind ≡ m.kind)
  pub count : IsCountOf rows set.count
