-- What is kept of a stream while its lines are read.
use Rattle.std.specs.Prelude.{◌≡◌, ◌⊎◌, ℕ, ◌≤◌, ◌+◌, false, List, []}
use Rattle.std.specs.Prelude.{◌∷◌, ◌++◌, length, Option, Some, None}
use Rattle.mds_table.specs.declared.json.TextFault.TheVariants as text
use Rattle.mds_table.specs.Json.{max_bytes, HasTextFault}
use Rattle.mds_batch.specs.declared.item.EventItem.{EventItem}
use Rattle.mds_batch.specs.Batch.{max_items}
use Rattle.mds_lines.specs.declared.line_fault.LineFault.{LineFault}
use Rattle.mds_lines.specs.declared.line_fault.LineFault.TheVariants.{Memory, TooLong, NotJson, TooMany}
use Rattle.mds_lines.specs.Stream.{with_feeds, HasNoFeed, is_blank, IsItemLine}
use Rattle.mds_lines.specs.Stream.{HoldItems, BeginsWith, HasLineFault, IsFaultyWith}

-- the bytes are these lines and a rest without a line feed; so many lines have ended, the last of
-- them before this place
pub record IsSplit (bytes : List ℕ) (ended count : ℕ) (lines : List (List ℕ)) (rest : List ℕ)
    : Type 0 where
  pub begins : BeginsWith bytes lines rest
  pub unended : HasNoFeed rest
  pub ended_at : ended ≡ length (with_feeds lines)
  pub counted : count ≡ length lines

-- the items of the lines that have ended, so many
abbrev pub AreRead : List ℕ → ℕ → ℕ → ℕ → List EventItem → Type 0
AreRead bytes ended count taken items =
    (lines : List (List ℕ)) × (rest : List ℕ)
    × IsSplit bytes ended count lines rest × HoldItems lines items × (taken ≡ length items)

-- the items of the lines that have ended and of the one that the bytes end with, so many
abbrev pub AreTaken : List ℕ → ℕ → ℕ → ℕ → List EventItem → Type 0
AreTaken bytes ended count taken items =
    (lines : List (List ℕ)) × (rest : List ℕ) × IsSplit bytes ended count lines rest
    × HoldItems (lines ++ rest ∷ []) items × (taken ≡ length items)

-- a taker that had taken these items has taken all these now
abbrev pub TakesOn : {T : Type 0} → (T → List EventItem → T → Type 0)
    → List EventItem → T → List EventItem → T → Type 0
TakesOn {T = T} took items old all new = (before : T) → took before items old → took before all new

-- what is wrong with the line of this number, behind lines that hold so many items
abbrev pub IsFaultOfLine : ℕ → List ℕ → ℕ → LineFault → Type 0
IsFaultOfLine number line taken Memory = Unit {0}
IsFaultOfLine number line taken TooLong = ⊥
IsFaultOfLine number line taken (NotJson at) =
    (at ≡ number) × (is_blank line ≡ false) × HasTextFault line text.NotJson
IsFaultOfLine number line taken TooMany =
    (is_blank line ≡ false) × ((item : EventItem) × IsItemLine line item) × (taken ≡ max_items)

-- the line that the bytes end with is whole in this stream: by a line feed, or as the last one
pub record EndsLine (bytes stream next : List ℕ) : Type 0 where
  pub ends : (stream ≡ bytes ++ 10 ∷ next) ⊎ ((stream ≡ bytes) × (next ≡ []))
  pub within : length stream ≤ max_bytes + length next

-- this is the first fault of every stream in which the line that the bytes end with is whole
abbrev pub IsFaultyAtEnd : List ℕ → LineFault → Type 0
IsFaultyAtEnd bytes fault =
    (stream next : List ℕ) → EndsLine bytes stream next → HasLineFault stream fault

-- without a fault the lines of all bytes are read, and else every stream that begins with them has
-- the fault
abbrev pub IsKept : Option LineFault → List ℕ → ℕ → ℕ → ℕ → Type 0
IsKept None bytes ended count taken =
    ((items : List EventItem) × AreRead bytes ended count taken items) × (length bytes ≤ max_bytes)
IsKept (Some fault) bytes ended count taken = IsFaultyWith bytes fault
