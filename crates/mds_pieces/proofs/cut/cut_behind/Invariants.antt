use Rattle.std.proofs.Common.{◌-◌, ◌≤◌, length}
use Rattle.mds_pieces.proofs.cut.cut_behind.Given as goal

abbrev pub invariant-loop-at : goal.invariant-loop-at
invariant-loop-at l = (l.from ≤ l.next) × (l.next ≤ length l.bytes)

abbrev pub decreases-loop-at : goal.decreases-loop-at
decreases-loop-at l = length l.bytes - l.next
