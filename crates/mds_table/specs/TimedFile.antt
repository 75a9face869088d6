-- The file of tables that change at stated times: the tables that it stands for, and its first
-- fault.
use Rattle.std.specs.Prelude.{◌≡◌, ◌≢◌, ◌⊎◌, ℕ, ◌<◌, ◌≤◌, List, [], ◌∷◌, ◌++◌, length}
use Rattle.std.specs.Prelude.{take, codes, nat_le, if◌then◌else◌, Option, Some, None}
use Rattle.std.specs.Prelude.{option_map, option_and_then, is_some, IsSomeAnd, slice_get}
use Rattle.std.specs.List.{AllZip, last_or}
use Rattle.std.specs.Fmt.{decimal}
use Rattle.serde_json.specs.Data.{Data}
use Rattle.serde_json.specs.Find.{get, as_array}
use Rattle.mds_table.specs.declared.row.Row.{Row}
use Rattle.mds_table.specs.declared.json.TextFault.{TextFault}
use Rattle.mds_table.specs.declared.json.TextFault.TheVariants as text
use Rattle.mds_table.specs.declared.table_file.TableFault.{TableFault}
use Rattle.mds_table.specs.declared.table_file.TableFault.TheVariants as table
use Rattle.mds_table.specs.declared.tables_fault.TablesFault.{TablesFault}
use Rattle.mds_table.specs.declared.tables_fault.TablesFault.TheVariants.{Memory, TooLong}
use Rattle.mds_table.specs.declared.tables_fault.TablesFault.TheVariants.{NotJson, NotRows}
use Rattle.mds_table.specs.declared.tables_fault.TablesFault.TheVariants.{InTable, NoTables}
use Rattle.mds_table.specs.declared.tables_fault.TablesFault.TheVariants.{TooManyTables, BadEntry}
use Rattle.mds_table.specs.declared.tables_fault.TablesFault.TheVariants.{FirstNotZero, NotRising}
use Rattle.mds_table.specs.Json.{max_time, items_in, time_in, IsShortTextOf, HasTextFault}
use Rattle.mds_table.specs.TableFile.{entries_in, AreTableOf, HasRowsFault}
use Rattle.mds_table.specs.TableFile.{HasEntries, HasTable, fault_text}
use Rattle.mds_table.specs.Tables.{Entry, start_of}
use Rattle.mds_table.specs.Timed.{max_tables, AreInTime, AreTimed}

-- a table may start at this time after the last one before it: the first at 0, each other later
abbrev pub Follows : Option ℕ → ℕ → Type 0
Follows None start = start ≡ 0
Follows (Some last) start = last < start

-- There are not too many items. Those before the place stand for tables in order of time, and this
-- holds of the last one's start and of the item at the place.
abbrev pub IsFirstAt : {X : Type 0} → (X → Entry → Type 0)
    → List X → ℕ → (Option ℕ → X → Type 0) → Type 0
IsFirstAt IsEntryOf items at P =
    (length items ≤ max_tables) × (before : List Entry)
    × AllZip IsEntryOf (take at items) before × AreInTime before
    × IsSomeAnd (slice_get items at) (P (option_map start_of (last_or None before)))

-- The first fault of a list of items that are to stand for tables: there is none, or too many;
-- then, item by item, that it isn't of its form, starts at a wrong time, or has a fault in its
-- rows.
abbrev pub HasListFault : {X : Type 0} → (X → Entry → Type 0) → (X → Option ℕ)
    → (X → TableFault → Type 0) → List X → TablesFault → Type 0
HasListFault IsEntryOf start_in HasFaultIn items NoTables = items ≡ []
HasListFault IsEntryOf start_in HasFaultIn items TooManyTables = max_tables < length items
HasListFault IsEntryOf start_in HasFaultIn items (BadEntry at) =
    IsFirstAt IsEntryOf items at (λ last item. start_in item ≡ None)
HasListFault IsEntryOf start_in HasFaultIn items FirstNotZero =
    IsFirstAt IsEntryOf items 0 (λ last item. IsSomeAnd (start_in item) (λ start. start ≢ 0))
HasListFault IsEntryOf start_in HasFaultIn items (NotRising at) =
    IsFirstAt IsEntryOf items at
    (λ last item. IsSomeAnd (start_in item) (λ start. IsSomeAnd last (λ earlier. start ≤ earlier)))
HasListFault IsEntryOf start_in HasFaultIn items (InTable (Some at) fault) =
    IsFirstAt IsEntryOf items at
    (λ last item. IsSomeAnd (start_in item) (Follows last) × HasFaultIn item fault)
HasListFault IsEntryOf start_in HasFaultIn items _ = ⊥

-- the time from which a table that is there is to be in force, if it isn't past the latest
abbrev pub start_told : Entry → Option ℕ
start_told entry = if nat_le (start_of entry) max_time then Some (start_of entry) else None

-- the first fault of starting times and tables that are there
abbrev pub HasTimesFault : List Entry → TablesFault → Type 0
HasTimesFault = HasListFault (λ told entry. entry ≡ told) start_told (λ told fault. ⊥)

-- the time from which an item's table is in force: it has a time in `from_time`, and a list in
-- `rows`
abbrev pub start_in : Data → Option ℕ
start_in item =
    option_and_then (λ time. option_map (λ rows. time) (entries_in item))
    (option_and_then time_in (get (codes "from_time") item))

-- the item stands for the table from its start on
pub record IsTableItem (item : Data) (entry : Entry) : Type 0 where
  pub start : start_in item ≡ Some (start_of entry)
  pub rows : IsSomeAnd (entries_in item) (λ rows. AreTableOf rows entry.1)

-- the first fault of an item's rows
abbrev pub HasItemFault : Data → TableFault → Type 0
HasItemFault item fault = IsSomeAnd (entries_in item) (λ rows. HasRowsFault rows fault)

-- the items of a member `tables`, if the value is an object with such a list
abbrev pub listed_in : Data → Option (List Data)
listed_in d = option_map items_in (option_and_then as_array (get (codes "tables") d))

-- the items of a file's member `tables`, which are read only where the file has no member `rows`
abbrev pub tables_in : Data → Option (List Data)
tables_in d = if is_some (get (codes "rows") d) then None else listed_in d

-- the bytes are few enough, and a text with items of `tables` of which this holds
abbrev pub HasItems : List ℕ → (List Data → Type 0) → Type 0
HasItems bytes P = (value : Data) × IsShortTextOf value bytes × IsSomeAnd (tables_in value) P

-- a file of one table, from 0 on
pub record HasOneTable (bytes : List ℕ) (entries : List Entry) : Type 0 where
  pub rows : List Row
  pub file : HasTable bytes rows
  pub one : entries ≡ (0, rows) ∷ []

-- tables that items stand for
pub record AreTablesOf (items : List Data) (entries : List Entry) : Type 0 where
  pub timed : AreTimed entries
  pub each : AllZip IsTableItem items entries

-- the bytes are a file of these tables: a table file, which is one table from 0, or a file of
-- tables with their starts
abbrev pub HasTables : List ℕ → List Entry → Type 0
HasTables bytes entries =
    HasOneTable bytes entries ⊎ HasItems bytes (λ items. AreTablesOf items entries)

-- the first fault of the items of `tables`
abbrev pub HasItemsFault : List Data → TablesFault → Type 0
HasItemsFault = HasListFault IsTableItem start_in HasItemFault

-- The first fault of a file: those of the file as a whole, then those of its tables. Memory may be
-- wanting whatever the file has.
abbrev pub HasTablesFault : List ℕ → TablesFault → Type 0
HasTablesFault bytes Memory = Unit {0}
HasTablesFault bytes TooLong = HasTextFault bytes text.TooLong
HasTablesFault bytes NotJson = HasTextFault bytes text.NotJson
HasTablesFault bytes NotRows =
    (value : Data)
    × IsShortTextOf value bytes × (entries_in value ≡ None) × (tables_in value ≡ None)
HasTablesFault bytes (InTable None fault) = HasEntries bytes (λ entries. HasRowsFault entries fault)
HasTablesFault bytes fault = HasItems bytes (λ items. HasItemsFault items fault)

-- the tables of a file are determined by its bytes
abbrev pub FilesHaveOneListOfTables : Type 0
FilesHaveOneListOfTables =
    (bytes : List ℕ) (entries others : List Entry)
    → HasTables bytes entries → HasTables bytes others → entries ≡ others

-- and a file of tables has no fault, want of memory aside
abbrev pub FilesOfTablesHaveNoFault : Type 0
FilesOfTablesHaveNoFault =
    (bytes : List ℕ) (entries : List Entry) (fault : TablesFault)
    → HasTables bytes entries → HasTablesFault bytes fault → fault ≡ Memory

-- and a file has one first fault, want of memory aside
abbrev pub FilesHaveOneTablesFault : Type 0
FilesHaveOneTablesFault =
    (bytes : List ℕ) (fault other : TablesFault)
    → HasTablesFault bytes fault → HasTablesFault bytes other
    → (fault ≡ Memory) ⊎ ((other ≡ Memory) ⊎ (fault ≡ other))

-- the fault of a file whose text has this one
abbrev pub of_text : TextFault → TablesFault
of_text text.Memory = Memory
of_text text.TooLong = TooLong
of_text text.NotJson = NotJson

-- the fault of a file one of whose tables has this one
abbrev pub of_table : Option ℕ → TableFault → TablesFault
of_table at table.Memory = Memory
of_table at fault = InTable at fault

-- the words for a fault
abbrev pub tables_fault_text : TablesFault → List ℕ
tables_fault_text Memory = fault_text table.Memory
tables_fault_text TooLong = fault_text table.TooLong
tables_fault_text NotJson = fault_text table.NotJson
tables_fault_text NotRows = fault_text table.NotRows
tables_fault_text (InTable None fault) = fault_text fault
tables_fault_text (InTable (Some at) fault) =
    codes "table " ++ decimal at ++ codes " " ++ fault_text fault
tables_fault_text NoTables = codes "no_tables"
tables_fault_text TooManyTables = codes "too_many_tables"
tables_fault_text (BadEntry at) = codes "bad_entry " ++ decimal at
tables_fault_text FirstNotZero = codes "first_not_zero"
tables_fault_text (NotRising at) = codes "not_rising " ++ decimal at
