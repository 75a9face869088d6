use Rattle.std.proofs.Common.{take}
use Rattle.mds_trace.specs.Parts.{IsShare}
use Rattle.mds_trace.proofs.part.replay_part.Given as goal

-- the worker's share of the items so far
abbrev pub invariant-loop-index : goal.invariant-loop-index
invariant-loop-index l = IsShare l.opening l.tables (take l.index l.items) l.workers l.worker l.told.items l.vehicles.entries l.vehicles.names
