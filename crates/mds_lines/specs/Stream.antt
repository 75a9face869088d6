-- The lines of a stream, on the whole stream, and the items that they are, or the first fault.
use Rattle.std.specs.Prelude.{◌≡◌, ◌≢◌, ◌⊎◌, ℕ, ◌<◌, ◌≤◌, ◌+◌, Bool, false, not, ◌||◌, ◌==◌}
use Rattle.std.specs.Prelude.{List, [], ◌∷◌, ◌++◌, length, take, filter, flat_map, All}
use Rattle.std.specs.List.{list_all, AllZip}
use Rattle.mds_table.specs.declared.json.TextFault.TheVariants as text
use Rattle.mds_table.specs.Json.{max_bytes, HasTextFault}
use Rattle.mds_batch.specs.declared.item.EventItem.{EventItem}
use Rattle.mds_batch.specs.Items.{IsEventItem}
use Rattle.mds_batch.specs.Batch.{IsItemText, max_items}
use Rattle.mds_lines.specs.declared.line_fault.LineFault.{LineFault}
use Rattle.mds_lines.specs.declared.line_fault.LineFault.TheVariants.{Memory, TooLong, NotJson, TooMany}

-- the lines, each with the line feed that ends it
abbrev pub with_feeds : List (List ℕ) → List ℕ
with_feeds lines = flat_map (λ line. line ++ 10 ∷ []) lines

-- no byte is a line feed
abbrev pub HasNoFeed : List ℕ → Type 0
HasNoFeed line = All (λ byte. byte ≢ 10) line

-- a space, a tab or a carriage return
abbrev pub is_space : ℕ → Bool
is_space byte = (byte == 32) || ((byte == 9) || (byte == 13))

-- a line that holds no item
abbrev pub is_blank : List ℕ → Bool
is_blank line = list_all is_space line

-- the lines that hold an item each
abbrev pub item_lines : List (List ℕ) → List (List ℕ)
item_lines lines = filter (λ line. not (is_blank line)) lines

-- a line is the text of this item
abbrev pub IsItemLine : List ℕ → EventItem → Type 0
IsItemLine line item = IsItemText IsEventItem line item

-- each line that isn't blank is the text of the item at its place, and the items are few enough
pub record HoldItems (lines : List (List ℕ)) (items : List EventItem) : Type 0 where
  pub each : AllZip IsItemLine (item_lines lines) items
  pub few : length items ≤ max_items

-- a stream is these lines, each with its line feed, and a rest; no line has a line feed within it
pub record BeginsWith (stream : List ℕ) (lines : List (List ℕ)) (rest : List ℕ) : Type 0 where
  pub joined : stream ≡ with_feeds lines ++ rest
  pub whole : All HasNoFeed lines

-- the items of the lines that have ended in some bytes: what is behind the last line feed isn't
-- looked at
abbrev pub HasEndedItems : List ℕ → List EventItem → Type 0
HasEndedItems bytes items =
    (lines : List (List ℕ)) × (rest : List ℕ) × BeginsWith bytes lines rest × HasNoFeed rest
    × (length bytes ≤ max_bytes) × HoldItems lines items

-- the items of a stream's lines, of which the last may end without a line feed
abbrev pub HasLineItems : List ℕ → List EventItem → Type 0
HasLineItems stream items =
    (lines : List (List ℕ)) × (last : List ℕ) × BeginsWith stream lines last × HasNoFeed last
    × (length stream ≤ max_bytes) × HoldItems (lines ++ last ∷ []) items

-- the first line of some bytes, and the bytes behind its line feed; where there is none, it is the
-- last line
abbrev pub IsFirstLine : List ℕ → List ℕ → List ℕ → Type 0
IsFirstLine bytes line next =
    HasNoFeed line × ((bytes ≡ line ++ 10 ∷ next) ⊎ ((bytes ≡ line) × (next ≡ [])))

-- the line of this number, from 0, isn't blank, and it and its line feed are within the limit;
-- those before it hold these items
pub record HasLineAt (stream : List ℕ) (at : ℕ) (items : List EventItem) (line : List ℕ)
    : Type 0 where
  pub before : List (List ℕ)
  pub rest : List ℕ
  pub next : List ℕ
  pub begins : BeginsWith stream before rest
  pub number : length before ≡ at
  pub held : HoldItems before items
  pub first : IsFirstLine rest line next
  pub within : length stream ≤ max_bytes + length next
  pub filled : is_blank line ≡ false

-- the first fault: a line that is no JSON, an item too many, or a byte too many; at a line's end no
-- JSON comes before too many items. Want of memory says nothing of the stream
abbrev pub HasLineFault : List ℕ → LineFault → Type 0
HasLineFault stream Memory = Unit {0}
HasLineFault stream TooLong =
    (max_bytes < length stream)
    × ((items : List EventItem) × HasEndedItems (take max_bytes stream) items)
HasLineFault stream (NotJson at) =
    (items : List EventItem) × (line : List ℕ)
    × HasLineAt stream at items line × HasTextFault line text.NotJson
HasLineFault stream TooMany =
    (at : ℕ) × (items : List EventItem) × (line : List ℕ) × HasLineAt stream at items line
    × ((item : EventItem) × IsItemLine line item) × (length items ≡ max_items)

-- this is the first fault of every stream that begins with these bytes
abbrev pub IsFaultyWith : List ℕ → LineFault → Type 0
IsFaultyWith bytes fault = (more : List ℕ) → HasLineFault (bytes ++ more) fault
