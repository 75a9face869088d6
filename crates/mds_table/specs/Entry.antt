-- An entry of a table file as the code keeps it, and lists that grow.
use Rattle.std.specs.Prelude.{◌≡◌, ◌⊎◌, List, Bool, true, false}
use Rattle.std.specs.Prelude.{Some, map, slice_index_or, Contains}
use Rattle.serde_json.specs.Data.{Data}
use Rattle.mds_table.specs.declared.state.State.{State}
use Rattle.mds_table.specs.declared.row.Row.{Row}
use Rattle.mds_table.specs.declared.entry.Entry.{Entry}
use Rattle.mds_table.specs.declared.entry.States.{States}
use Rattle.mds_table.specs.declared.table_file.TableFault.{TableFault}
use Rattle.mds_table.specs.declared.table_file.TableFault.TheVariants.{Memory, TooLong, NotJson}
use Rattle.mds_table.specs.declared.table_file.TableFault.TheVariants.{NotRows, BadRow, TooManyRows}
use Rattle.mds_table.specs.declared.table_file.TableFault.TheVariants.{TooManyTypes, Empty}
use Rattle.mds_table.specs.State.{code_of}
use Rattle.mds_table.specs.Json.{state_in}
use Rattle.mds_table.specs.TableFile.{StandsFor, HasRowsFault}

-- the state is marked
abbrev pub is_marked : States → State → Bool
is_marked states state = slice_index_or states.marks (code_of state) false

-- the states marked are those named by some of the values
pub record AreMarked (values : List Data) (states : States) : Type 0 where
  pub named : (state : State)
      → is_marked states state ≡ true → Contains (map state_in values) (Some state)
  pub all : (state : State)
      → Contains (map state_in values) (Some state) → is_marked states state ≡ true

-- the entry has the row: both states are marked, and the type is its type
pub record HasRow (entry : Entry) (row : Row) : Type 0 where
  pub from : is_marked entry.from row.from ≡ true
  pub kind : row.kind ≡ entry.kind
  pub to : is_marked entry.to row.to ≡ true

-- the entry has the rows that the value stands for
pub record IsEntryOf (value : Data) (entry : Entry) : Type 0 where
  pub stands : (row : Row) → HasRow entry row → StandsFor value row
  pub has : (row : Row) → StandsFor value row → HasRow entry row

-- the new list has what the old one has, what P holds of, and nothing else
pub record Adds {X : Type 0} (old new : List X) (P : X → Type 0) : Type 0 where
  pub keeps : (x : X) → Contains old x → Contains new x
  pub adds : (x : X) → P x → Contains new x
  pub none_else : (x : X) → Contains new x → Contains old x ⊎ P x

-- a row of the entry's type from this state to one of these that the entry has
pub record IsRowTo (from : State) (entry : Entry) (states : List State) (row : Row) : Type 0 where
  pub leaves : row.from ≡ from
  pub kind : row.kind ≡ entry.kind
  pub named : Contains states row.to
  pub to : is_marked entry.to row.to ≡ true

-- the first fault of the entries of a table, or want of memory
abbrev pub HasFaultIn : List Data → TableFault → Type 0
HasFaultIn entries Memory = Unit {0}
HasFaultIn entries Empty = HasRowsFault entries Empty
HasFaultIn entries (BadRow at) = HasRowsFault entries (BadRow at)
HasFaultIn entries TooManyRows = HasRowsFault entries TooManyRows
HasFaultIn entries TooManyTypes = HasRowsFault entries TooManyTypes
HasFaultIn entries TooLong = ⊥
HasFaultIn entries NotJson = ⊥
HasFaultIn entries NotRows = ⊥
