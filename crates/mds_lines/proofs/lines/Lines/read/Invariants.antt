use Rattle.std.proofs.Common.{◌-◌, ◌≤◌, List, length, take}
use Rattle.mds_batch.specs.declared.item.EventItem.{EventItem}
use Rattle.mds_lines.specs.LineReading.{AreRead, TakesOn}
use Rattle.mds_lines.proofs.lines.Lines.read.Given as goal

abbrev pub invariant-loop-at : goal.invariant-loop-at
invariant-loop-at g l = record {
  within : l.next ≤ length l.bytes;
  read : (items : List EventItem) → AreRead (take l.from l.bytes) l.initial.self.ended l.initial.self.count l.initial.self.taken items
      → (all : List EventItem) × TakesOn g.T.TakesItems.took items l.initial.taker all l.taker
      × AreRead (take l.next l.bytes) l.self.ended l.self.count l.self.taken all;
}

abbrev pub decreases-loop-at : goal.decreases-loop-at
decreases-loop-at g l = length l.bytes - l.next
