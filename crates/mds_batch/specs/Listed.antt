-- What is kept of the items of a batch while they are read.
use Rattle.std.specs.Prelude.{◌≡◌, ℕ, ◌<◌, ◌≤◌, List, length, Bool, true, false, Some, None}
use Rattle.serde_json.specs.Data.{Data}
use Rattle.mds_batch.specs.Batch.{listed_values, max_items, AreItemsOf}

-- the items that the values are were taken, and counted, or the values are too many
abbrev pub HoldsItems : {A : Type 0} → (Data → A → Type 0)
    → (List A → Type 0) → List Data → ℕ → Bool → Type 0
HoldsItems {A = A} IsItemOf Took values count false =
    (items : List A) × AreItemsOf IsItemOf values items × Took items
    × (count ≡ length values) × (length values ≤ max_items)
HoldsItems IsItemOf Took values count true = max_items < length values

-- the same of what a value lists, if it lists anything
abbrev pub IsListOf : {A : Type 0} → (Data → A → Type 0)
    → (List A → Type 0) → Data → ℕ → Bool → Bool → Type 0
IsListOf IsItemOf Took value count is_too_long true =
    (values : List Data)
    × (listed_values value ≡ Some values) × HoldsItems IsItemOf Took values count is_too_long
IsListOf IsItemOf Took value count is_too_long false = listed_values value ≡ None
