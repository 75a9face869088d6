-- What holds of streams of lines, whoever reads them.
use Rattle.std.specs.Prelude.{◌≡◌, ◌⊎◌, ℕ, List}
use Rattle.mds_batch.specs.declared.item.EventItem.{EventItem}
use Rattle.mds_lines.specs.declared.line_fault.LineFault.{LineFault}
use Rattle.mds_lines.specs.declared.line_fault.LineFault.TheVariants.{Memory}
use Rattle.mds_lines.specs.Stream.{HasLineItems, HasLineFault}

-- the items of a stream's lines are determined by its bytes
abbrev pub StreamsHaveOneListOfItems : Type 0
StreamsHaveOneListOfItems =
    (stream : List ℕ) (items others : List EventItem)
    → HasLineItems stream items → HasLineItems stream others → items ≡ others

-- a stream whose lines have items has no fault, want of memory aside
abbrev pub StreamsWithItemsHaveNoFault : Type 0
StreamsWithItemsHaveNoFault =
    (stream : List ℕ) (items : List EventItem) (fault : LineFault)
    → HasLineItems stream items → HasLineFault stream fault → fault ≡ Memory

-- a stream has one first fault, want of memory aside
abbrev pub StreamsHaveOneFault : Type 0
StreamsHaveOneFault =
    (stream : List ℕ) (fault other : LineFault)
    → HasLineFault stream fault → HasLineFault stream other
    → (fault ≡ Memory) ⊎ ((other ≡ Memory) ⊎ (fault ≡ other))
