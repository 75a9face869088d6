use Rattle.std.proofs.Common.{take}
use Rattle.std.specs.List.{AllZip}
use Rattle.mds_trace.specs.Parts.{IsEndIn}
use Rattle.mds_trace.proofs.collect.ends_in.Given as goal

-- where the vehicles so far end
abbrev pub invariant-loop-key : goal.invariant-loop-key
invariant-loop-key l = AllZip (IsEndIn l.opening l.parts) (take l.key-index l.key-items) l.ends.items
