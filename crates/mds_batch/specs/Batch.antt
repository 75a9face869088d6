-- What the bytes of a batch are: items, or the first fault of the whole.
use Rattle.std.specs.Prelude.{◌≡◌, codes, ℕ, ◌<◌, ◌≤◌, List, [], ◌∷◌, length}
use Rattle.std.specs.Prelude.{slice_get, Option, Some, None, option_map}
use Rattle.std.specs.Option.{option_or}
use Rattle.serde_json.specs.Data.{Data}
use Rattle.serde_json.specs.Find.{as_array, as_object}
use Rattle.mds_table.specs.declared.json.TextFault.TheVariants as text
use Rattle.mds_table.specs.Json.{items_in, IsShortTextOf, HasTextFault}
use Rattle.mds_batch.specs.declared.batch.BatchFault.{BatchFault}
use Rattle.mds_batch.specs.declared.batch.BatchFault.TheVariants.{Memory, TooLong, NotJson}
use Rattle.mds_batch.specs.declared.batch.BatchFault.TheVariants.{NotList, TooMany}

-- the values that a batch lists: those of a list, or an object alone
abbrev pub listed_values : Data → Option (List Data)
listed_values value =
    option_or (option_map items_in (as_array value))
    (option_map (λ members. value ∷ []) (as_object value))

-- the most items of a batch
abbrev pub max_items : ℕ
max_items = 10000

-- each item is what the value at its place stands for
pub record AreItemsOf {A : Type 0} (IsItemOf : Data → A → Type 0) (values : List Data)
    (items : List A) : Type 0 where
  pub count : length items ≡ length values
  pub each : (place : ℕ) (value : Data) (item : A)
      → slice_get values place ≡ Some value → slice_get items place ≡ Some item
      → IsItemOf value item

-- the bytes list values, of which there are few enough, and the items are what these stand for,
-- each in its place
abbrev pub HasItems : {A : Type 0} → (Data → A → Type 0) → List ℕ → List A → Type 0
HasItems IsItemOf bytes items =
    (value : Data) × (all : List Data) × IsShortTextOf value bytes
    × (listed_values value ≡ Some all) × (length all ≤ max_items) × AreItemsOf IsItemOf all items

-- what is wrong with a value that is no batch: it is neither a list nor an object, or it lists too
-- many
abbrev pub IsListFault : Data → BatchFault → Type 0
IsListFault value NotList = listed_values value ≡ None
IsListFault value TooMany =
    (all : List Data) × (listed_values value ≡ Some all) × (max_items < length all)
IsListFault value Memory = ⊥
IsListFault value TooLong = ⊥
IsListFault value NotJson = ⊥

-- the first fault: too many bytes, no text of JSON, or a fault of the list; want of memory says
-- nothing of the bytes
abbrev pub HasFault : List ℕ → BatchFault → Type 0
HasFault bytes TooLong = HasTextFault bytes text.TooLong
HasFault bytes NotJson = HasTextFault bytes text.NotJson
HasFault bytes NotList = (value : Data) × IsShortTextOf value bytes × IsListFault value NotList
HasFault bytes TooMany = (value : Data) × IsShortTextOf value bytes × IsListFault value TooMany
HasFault bytes Memory = Unit {0}

-- the bytes are a short text of one value, and the item is what it stands for
abbrev pub IsItemText : {A : Type 0} → (Data → A → Type 0) → List ℕ → A → Type 0
IsItemText IsItemOf bytes item = (value : Data) × IsShortTextOf value bytes × IsItemOf value item

-- why bytes are no text of one item: too many, or no text of JSON; want of memory says nothing of
-- them
abbrev pub HasItemFault : List ℕ → BatchFault → Type 0
HasItemFault bytes TooLong = HasTextFault bytes text.TooLong
HasItemFault bytes NotJson = HasTextFault bytes text.NotJson
HasItemFault bytes NotList = ⊥
HasItemFault bytes TooMany = ⊥
HasItemFault bytes Memory = Unit {0}

-- the word for a fault
abbrev pub fault_text : BatchFault → List ℕ
fault_text Memory = codes "out of memory"
fault_text TooLong = codes "too_long"
fault_text NotJson = codes "not_json"
fault_text NotList = codes "not_list"
fault_text TooMany = codes "too_many"
