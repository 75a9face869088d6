-- What the tokens of a text begin with, as `serde_json` reads them.
use Rattle.std.specs.Prelude.{◌≡◌, ℕ, ◌<◌, ◌-◌, List, length, Bool, Option, Some}
use Rattle.json.specs.Token.{Token}
use Rattle.json.specs.Json as json
use Rattle.serde_json.specs.Data.{Data, null, boolean, number, string}
use Rattle.serde_json.specs.Data.{array, object, Items, Members, no_members}
use Rattle.serde_json.specs.Read.{of_json, of_items, of_members, converted}
use Rattle.serde_json.specs.View.{number_view}
use Rattle.mds_batch.specs.declared.tokens.Head.{Head}
use Rattle.mds_batch.specs.declared.tokens.Head.TheVariants as head
use Rattle.mds_batch.specs.declared.tokens.ReadFault.{ReadFault}
use Rattle.mds_batch.specs.declared.tokens.ReadFault.TheVariants as reading
use Rattle.mds_batch.specs.declared.batch.BatchFault.{BatchFault}
use Rattle.mds_batch.specs.declared.batch.BatchFault.TheVariants as batch

-- the value that comes first, with lists and objects nested no deeper than this, and the tokens
-- behind it
abbrev pub value_at : ℕ → List Token → Option (Data × List Token)
value_at depth tokens = converted of_json (json.value depth tokens)

-- the items that come first, up to the bracket that closes their list, and the tokens behind it
abbrev pub items_at : ℕ → List Token → Option (Items × List Token)
items_at depth tokens = converted of_items (json.items (json.value depth) (length tokens) tokens)

-- the members that come first, up to the brace that closes their object, and the tokens behind it
abbrev pub members_at : ℕ → List Token → Option (Members × List Token)
members_at depth tokens =
    converted (λ members. of_members members no_members)
    (json.members (json.value depth) (length tokens) tokens)

-- a value comes first of the old tokens, the new ones are behind it, and this is what the form
-- makes of it
abbrev pub Reads : {A : Type 0} → (Data → A) → ℕ → List Token → List Token → A → Type 0
Reads form depth old new made =
    (value : Data) × (value_at depth old ≡ Some (value, new)) × (made ≡ form value)

-- a value has this head: what it is where it is neither list nor object, else its kind
abbrev pub IsHeadOf : Data → Head → Type 0
IsHeadOf value head.Null = value ≡ null
IsHeadOf value head.Bool = (b : Bool) × (value ≡ boolean b)
IsHeadOf value (head.Number n) = value ≡ number (number_view n)
IsHeadOf value (head.Text text) = value ≡ string text.now
IsHeadOf value head.Array = (items : Items) × (value ≡ array items)
IsHeadOf value head.Object = (members : Members) × (value ≡ object members)

-- behind the head of a value: its items or its members come next, or the whole of it was read
abbrev pub HasBegun : ℕ → List Token → Head → List Token → Type 0
HasBegun depth old head.Array new =
    (0 < depth) × (value_at depth old ≡ json.parse_map array (items_at (depth - 1) new))
HasBegun depth old head.Object new =
    (0 < depth) × (value_at depth old ≡ json.parse_map object (members_at (depth - 1) new))
HasBegun depth old alone new =
    (value : Data) × (value_at depth old ≡ Some (value, new)) × IsHeadOf value alone

-- the fault of a batch whose text could not be read
abbrev pub fault_of_text : ReadFault → BatchFault
fault_of_text reading.Memory = batch.Memory
fault_of_text reading.NotJson = batch.NotJson
