use Rattle.std.proofs.Common.{take}
use Rattle.mds_trace.specs.Parts.{all_told, ArePut}
use Rattle.mds_trace.proofs.collect.put_parts.Given as goal

-- what the parts so far tell was put
abbrev pub invariant-loop-part : goal.invariant-loop-part
invariant-loop-part l = ArePut (all_told (take l.part-index l.parts)) l.fn.lines l.lines
