-- Tables that change at stated times, as they are read step by step.
use Rattle.std.specs.Prelude.{◌≡◌, ◌≢◌, ◌⊎◌, ℕ, ◌<◌, ◌≤◌, List, []}
use Rattle.std.specs.Prelude.{◌∷◌, Option, Some, None, IsSomeAnd}
use Rattle.serde_json.specs.Data.{Data}
use Rattle.mds_table.specs.declared.row.Row.{Row}
use Rattle.mds_table.specs.declared.table_file.TableFault.{TableFault}
use Rattle.mds_table.specs.declared.tables_fault.TablesFault.{TablesFault}
use Rattle.mds_table.specs.declared.tables_fault.TablesFault.TheVariants.{Memory, NotRows, InTable}
use Rattle.mds_table.specs.declared.tables_fault.TablesFault.TheVariants.{NoTables, TooManyTables}
use Rattle.mds_table.specs.declared.tables_fault.TablesFault.TheVariants.{FirstNotZero, NotRising}
use Rattle.mds_table.specs.TableFile.{AreTableOf, HasRowsFault}
use Rattle.mds_table.specs.Tables.{Entry}
use Rattle.mds_table.specs.Timed.{max_tables}
use Rattle.mds_table.specs.TimedFile.{HasItemsFault}

-- so many tables may follow one another
pub record IsCount (count : ℕ) : Type 0 where
  pub some : 1 ≤ count
  pub few : count ≤ max_tables

-- what is wrong with a number of tables
abbrev pub IsCountFault : ℕ → TablesFault → Type 0
IsCountFault count fault =
    ((fault ≡ NoTables) × (count ≡ 0)) ⊎ ((fault ≡ TooManyTables) × (max_tables < count))

-- what is wrong with the start of the table at a place, after the last one before it
abbrev pub IsStartFault : ℕ → Option ℕ → ℕ → TablesFault → Type 0
IsStartFault at None start fault = (fault ≡ FirstNotZero) × (start ≢ 0)
IsStartFault at (Some last) start fault = (fault ≡ NotRising at) × (start ≤ last)

-- what is wrong with the table at a place, or with the one of a file of `rows`, or want of memory
abbrev pub IsTableFault : Option ℕ → List Data → TablesFault → Type 0
IsTableFault at rows fault =
    (fault ≡ Memory) ⊎ ((inner : TableFault) × (fault ≡ InTable at inner) × HasRowsFault rows inner)

-- what is wrong with a file of `rows`, by the rows, or want of memory
abbrev pub IsFileFault : Option (List Data) → TablesFault → Type 0
IsFileFault None fault = fault ≡ NotRows
IsFileFault (Some rows) fault = IsTableFault None rows fault

-- the one table from 0 on that these rows are
abbrev pub IsTableFrom0 : Option (List Data) → List Entry → Type 0
IsTableFrom0 entries tables =
    (rows : List Row) × IsSomeAnd entries (λ list. AreTableOf list rows) × (tables ≡ (0, rows) ∷ [])

-- what is wrong with the items of `tables`, or want of memory
abbrev pub IsItemsFault : List Data → TablesFault → Type 0
IsItemsFault items fault = (fault ≡ Memory) ⊎ HasItemsFault items fault

-- what is wrong with a file of `tables`, by its items, or want of memory
abbrev pub IsListedFault : Option (List Data) → TablesFault → Type 0
IsListedFault None fault = fault ≡ NotRows
IsListedFault (Some items) fault = IsItemsFault items fault
