use Rattle.std.proofs.Common.{◌≡◌, take}
use Rattle.mds_trace.proofs.workers.close_together.Given as goal

-- the items so far are kept
abbrev pub invariant-loop-item : goal.invariant-loop-item
invariant-loop-item l = l.kept ≡ take l.item-index l.items
