-- The table file: the rows that it stands for, and its first fault.
use Rattle.std.specs.Prelude.{◌≡◌, ◌⊎◌, ℕ, ◌+◌, ◌<◌, ◌≤◌, List, [], ◌∷◌, ◌++◌, length, take}
use Rattle.std.specs.Prelude.{codes, true, Option, Some, None, option_map, option_and_then}
use Rattle.std.specs.Prelude.{IsSome, IsSomeAnd, All, Contains, map, slice_get}
use Rattle.std.specs.Ordering.{nat_cmp}
use Rattle.std.specs.Fmt.{decimal}
use Rattle.std.specs.Cmp.Lexicographic.{slice_cmp}
use Rattle.serde_json.specs.Data.{Data, null, boolean, number, string, array, object}
use Rattle.serde_json.specs.Find.{get, as_array}
use Rattle.mds_table.specs.declared.state.State.{State}
use Rattle.mds_table.specs.declared.row.Row.{Row}
use Rattle.mds_table.specs.declared.json.TextFault.{TextFault}
use Rattle.mds_table.specs.declared.json.TextFault.TheVariants as text
use Rattle.mds_table.specs.declared.table_file.TableFault.{TableFault}
use Rattle.mds_table.specs.declared.table_file.TableFault.TheVariants.{Memory, TooLong, NotJson}
use Rattle.mds_table.specs.declared.table_file.TableFault.TheVariants.{NotRows, BadRow, TooManyRows}
use Rattle.mds_table.specs.declared.table_file.TableFault.TheVariants.{TooManyTypes, Empty}
use Rattle.mds_table.specs.Row.{ascends, in_order}
use Rattle.mds_table.specs.Json.{items_in, IsShortTextOf, HasTextFault, state_in, type_name_in}

-- the most rows of a table
abbrev pub max_rows : ℕ
max_rows = 4096

-- the most types of a table
abbrev pub max_table_types : ℕ
max_table_types = 64

-- what a value lists: the items of a list, or else itself alone
abbrev pub listed_values : Data → List Data
listed_values (array ds) = items_in ds
listed_values null = null ∷ []
listed_values (boolean b) = boolean b ∷ []
listed_values (number n) = number n ∷ []
listed_values (string s) = string s ∷ []
listed_values (object ms) = object ms ∷ []

-- a text that is the name of a state
abbrev pub IsStateName : Data → Type 0
IsStateName d = IsSome (state_in d)

-- a list of at least one state name, or a single one
pub record ListsStates (d : Data) : Type 0 where
  pub some : 1 ≤ length (listed_values d)
  pub names : All IsStateName (listed_values d)

-- the state is one of those listed
abbrev pub Lists : State → Data → Type 0
Lists state d = Contains (map state_in (listed_values d)) (Some state)

-- a text that is a type name
abbrev pub IsType : Data → Type 0
IsType d = IsSome (type_name_in d)

-- an entry of the right form: it has states in `from` and in `to`, and a type in `type`
pub record IsRowEntry (entry : Data) : Type 0 where
  pub from : IsSomeAnd (get (codes "from") entry) ListsStates
  pub kind : IsSomeAnd (get (codes "type") entry) IsType
  pub to : IsSomeAnd (get (codes "to") entry) ListsStates

-- the entry stands for the row: it lists the row's two states, and has its type
pub record StandsFor (entry : Data) (row : Row) : Type 0 where
  pub from : IsSomeAnd (get (codes "from") entry) (Lists row.from)
  pub kind : option_and_then type_name_in (get (codes "type") entry) ≡ Some row.kind
  pub to : IsSomeAnd (get (codes "to") entry) (Lists row.to)

-- some entry stands for the row
abbrev pub AnyStandsFor : List Data → Row → Type 0
AnyStandsFor entries row = (entry : Data) × Contains entries entry × StandsFor entry row

-- the rows that entries stand for, each once, in row order
pub record AreRowsOf (entries : List Data) (rows : List Row) : Type 0 where
  pub order : in_order rows ≡ true
  pub none_else : (row : Row) → Contains rows row → AnyStandsFor entries row
  pub all : (row : Row) → AnyStandsFor entries row → Contains rows row

-- the types of rows, each once, in the order of their bytes
pub record AreTypesOf (rows : List Row) (kinds : List (List ℕ)) : Type 0 where
  pub order : ascends (slice_cmp nat_cmp) kinds ≡ true
  pub none_else : (kind : List ℕ)
      → Contains kinds kind → (row : Row) × Contains rows row × (row.kind ≡ kind)
  pub all : (row : Row) → Contains rows row → Contains kinds row.kind

-- entries without a fault, with their rows and the types of these
pub record AreGood (entries : List Data) (rows : List Row) (kinds : List (List ℕ)) : Type 0 where
  pub forms : All IsRowEntry entries
  pub exactly : AreRowsOf entries rows
  pub few_rows : length rows ≤ max_rows
  pub types : AreTypesOf rows kinds
  pub few_kinds : length kinds ≤ max_table_types

-- the first entries, up to a place, have no fault
abbrev pub AreGoodBefore : List Data → ℕ → Type 0
AreGoodBefore entries at =
    (rows : List Row) × (kinds : List (List ℕ)) × AreGood (take at entries) rows kinds

-- what can be wrong with an entry: its form, or that with it there are more rows, or more types,
-- than a table may have
pub data EntryFault : Type 0 where
  bad_form : EntryFault
  many_rows : EntryFault
  many_types : EntryFault

-- the fault of the entry at this place, of these three the first
abbrev pub IsFaultAt : List Data → ℕ → EntryFault → Type 0
IsFaultAt entries at bad_form = IsSomeAnd (slice_get entries at) (λ entry. IsRowEntry entry → ⊥)
IsFaultAt entries at many_rows =
    IsSomeAnd (slice_get entries at) IsRowEntry × (rows : List Row)
    × AreRowsOf (take (at + 1) entries) rows × (max_rows < length rows)
IsFaultAt entries at many_types =
    IsSomeAnd (slice_get entries at) IsRowEntry × (rows : List Row)
    × AreRowsOf (take (at + 1) entries) rows × (length rows ≤ max_rows)
    × (kinds : List (List ℕ)) × AreTypesOf rows kinds × (max_table_types < length kinds)

-- the first fault of entries: the entries before this place have none, and the one at it has this
-- fault
pub record IsFirstFault (entries : List Data) (at : ℕ) (fault : EntryFault) : Type 0 where
  pub before : AreGoodBefore entries at
  pub here : IsFaultAt entries at fault

-- the entries of a file: its member `rows`, if it is an object with such a list
abbrev pub entries_in : Data → Option (List Data)
entries_in d = option_map items_in (option_and_then as_array (get (codes "rows") d))

-- the bytes are few enough, and a text with entries of which this holds
abbrev pub HasEntries : List ℕ → (List Data → Type 0) → Type 0
HasEntries bytes P = (value : Data) × IsShortTextOf value bytes × IsSomeAnd (entries_in value) P

-- the entries are those of a table of these rows: there is one, and each is without a fault
abbrev pub AreTableOf : List Data → List Row → Type 0
AreTableOf entries rows =
    (1 ≤ length entries) × (kinds : List (List ℕ)) × AreGood entries rows kinds

-- the bytes are a table file of these rows
abbrev pub HasTable : List ℕ → List Row → Type 0
HasTable bytes rows = HasEntries bytes (λ entries. AreTableOf entries rows)

-- the first fault of the entries of a table: there is none, or one of them has a fault; the other
-- faults are a file's
abbrev pub HasRowsFault : List Data → TableFault → Type 0
HasRowsFault entries Empty = entries ≡ []
HasRowsFault entries (BadRow at) = IsFirstFault entries at bad_form
HasRowsFault entries TooManyRows = (at : ℕ) × IsFirstFault entries at many_rows
HasRowsFault entries TooManyTypes = (at : ℕ) × IsFirstFault entries at many_types
HasRowsFault entries Memory = ⊥
HasRowsFault entries TooLong = ⊥
HasRowsFault entries NotJson = ⊥
HasRowsFault entries NotRows = ⊥

-- The first fault of a file: those of the file as a whole, then those of its entries, entry by
-- entry. Memory may be wanting whatever the file has.
abbrev pub HasFault : List ℕ → TableFault → Type 0
HasFault bytes Memory = Unit {0}
HasFault bytes TooLong = HasTextFault bytes text.TooLong
HasFault bytes NotJson = HasTextFault bytes text.NotJson
HasFault bytes NotRows = (value : Data) × IsShortTextOf value bytes × (entries_in value ≡ None)
HasFault bytes Empty = HasEntries bytes (λ entries. HasRowsFault entries Empty)
HasFault bytes (BadRow at) = HasEntries bytes (λ entries. HasRowsFault entries (BadRow at))
HasFault bytes TooManyRows = HasEntries bytes (λ entries. HasRowsFault entries TooManyRows)
HasFault bytes TooManyTypes = HasEntries bytes (λ entries. HasRowsFault entries TooManyTypes)

-- the fault of a file whose text has this one
abbrev pub of_text : TextFault → TableFault
of_text text.Memory = Memory
of_text text.TooLong = TooLong
of_text text.NotJson = NotJson

-- the word for a fault
abbrev pub fault_text : TableFault → List ℕ
fault_text Memory = codes "out of memory"
fault_text TooLong = codes "too_long"
fault_text NotJson = codes "not_json"
fault_text NotRows = codes "not_rows"
fault_text (BadRow at) = codes "bad_row " ++ decimal at
fault_text TooManyRows = codes "too_many_rows"
fault_text TooManyTypes = codes "too_many_types"
fault_text Empty = codes "empty"

-- the rows of a table file are determined by its bytes
abbrev pub FilesHaveOneTable : Type 0
FilesHaveOneTable =
    (bytes : List ℕ) (rows others : List Row)
    → HasTable bytes rows → HasTable bytes others → rows ≡ others

-- and a table file has no fault, want of memory aside
abbrev pub TableFilesHaveNoFault : Type 0
TableFilesHaveNoFault =
    (bytes : List ℕ) (rows : List Row) (fault : TableFault)
    → HasTable bytes rows → HasFault bytes fault → fault ≡ Memory

-- and a file has one first fault, want of memory aside
abbrev pub FilesHaveOneFault : Type 0
FilesHaveOneFault =
    (bytes : List ℕ) (fault other : TableFault)
    → HasFault bytes fault → HasFault bytes other
    → (fault ≡ Memory) ⊎ ((other ≡ Memory) ⊎ (fault ≡ other))
