-- Texts of JSON, as table files and batches are, and what their values name.
use Rattle.std.specs.Prelude.{◌≡◌, ℕ, ◌<◌, ◌≤◌, List, [], ◌∷◌, length, nat_le, Option}
use Rattle.std.specs.Prelude.{Some, None, option_and_then, find, if◌then◌else◌, IsUtf8}
use Rattle.std.specs.Str.{bytes_eq}
use Rattle.serde_json.specs.Data.{Data, Items, no_items, item}
use Rattle.serde_json.specs.Find.{as_str, as_number, as_u64}
use Rattle.serde_json.specs.Read.{read}
use Rattle.mds_table.specs.declared.state.State.{State}
use Rattle.mds_table.specs.declared.state.TheConstants.State.{ALL}
use Rattle.mds_table.specs.declared.json.TextFault.{TextFault}
use Rattle.mds_table.specs.declared.json.TextFault.TheVariants.{Memory, TooLong, NotJson}
use Rattle.mds_table.specs.State.{name_of}
use Rattle.mds_table.specs.TypeName.{is_type_name}

-- the most bytes of a text
abbrev pub max_bytes : ℕ
max_bytes = 4194304

-- the value that the bytes are, in UTF-8 and JSON
abbrev pub IsTextOf : List ℕ → Data → Type 0
IsTextOf bytes value = IsUtf8 bytes × (read bytes ≡ Some value)

-- the bytes are few enough, and the text of a value
abbrev pub IsShortTextOf : Data → List ℕ → Type 0
IsShortTextOf value bytes = (length bytes ≤ max_bytes) × IsTextOf bytes value

-- why there is no such value: too many bytes, or else no text of JSON; want of memory says nothing
-- of the bytes
abbrev pub HasTextFault : List ℕ → TextFault → Type 0
HasTextFault bytes Memory = Unit {0}
HasTextFault bytes TooLong = max_bytes < length bytes
HasTextFault bytes NotJson =
    (length bytes ≤ max_bytes) × ((value : Data) → IsTextOf bytes value → ⊥)

-- the items of a list
abbrev pub items_in : Items → List Data
items_in no_items = []
items_in (item value rest) = value ∷ items_in rest

-- the state of this name
abbrev pub state_of_name : List ℕ → Option State
state_of_name name = find (λ state. bytes_eq (name_of state) name) ALL

-- the state that a value names
abbrev pub state_in : Data → Option State
state_in value = option_and_then state_of_name (as_str value)

-- the type name that a value is
abbrev pub type_name_in : Data → Option (List ℕ)
type_name_in value =
    option_and_then (λ text. if is_type_name text then Some text else None) (as_str value)

-- the latest time, in milliseconds since the Unix epoch: up to it no two whole numbers are the same
-- double
abbrev pub max_time : ℕ
max_time = 9007199254740991

-- the time that a value is: a whole number, not past the latest
abbrev pub time_in : Data → Option ℕ
time_in value =
    option_and_then (λ time. if nat_le time max_time then Some time else None)
    (option_and_then as_u64 (as_number value))
