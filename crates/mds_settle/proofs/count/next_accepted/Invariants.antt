use Rattle.std.proofs.Common.{◌-◌, length}
use Rattle.mds_settle.proofs.count.next_accepted.Given as goal

abbrev pub decreases-loop-note : goal.decreases-loop-note
decreases-loop-note l = length l.notes - l.next
