use Rattle.std.proofs.Common.{◌≡◌, take}
use Rattle.mds_trace.specs.Replayer.{Took}
use Rattle.mds_trace.proofs.replayer.replay.Given as goal

-- the replayer took the items so far
abbrev pub invariant-loop-item : goal.invariant-loop-item
invariant-loop-item l = record {
  took : Took (take l.item-index l.items) l.replayer;
  tables : l.replayer.tables ≡ l.fn.tables;
  opening : l.replayer.opening ≡ l.fn.opening;
}
