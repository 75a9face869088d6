use Rattle.std.proofs.Common.{take}
use Rattle.mds_trace.specs.Parts.{ArePut}
use Rattle.mds_trace.proofs.collect.put_told.Given as goal

-- what was told so far was put
abbrev pub invariant-loop-one : goal.invariant-loop-one
invariant-loop-one l = ArePut (take l.one-index l.told) l.fn.lines l.lines
