-- What a replay of lines keeps of the items that it took.
use Rattle.std.specs.Prelude.{ℕ, List, Option, Some, None}
use Rattle.mds_batch.specs.declared.item.EventItem.{EventItem}
use Rattle.mds_lines.specs.declared.line_fault.LineFault.{LineFault}
use Rattle.mds_lines.specs.Stream.{HasEndedItems}
use Rattle.mds_trace.specs.Replayer.{Replaying, Took}

-- without a fault the items of the lines that have ended were taken
abbrev pub AreReplayed : Option LineFault → List ℕ → Replaying → Type 0
AreReplayed None bytes replayer =
    (items : List EventItem) × HasEndedItems bytes items × Took items replayer
AreReplayed (Some fault) bytes replayer = Unit {0}
