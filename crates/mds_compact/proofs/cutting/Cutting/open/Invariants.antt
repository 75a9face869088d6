use Rattle.std.proofs.Common.{[], take}
use Rattle.mds_compact.specs.Cutting.{IsCuttingOf}
use Rattle.mds_compact.proofs.cutting.Cutting.open.Given as goal

-- the cuts so far were taken
abbrev pub invariant-loop-cut : goal.invariant-loop-cut
invariant-loop-cut l = IsCuttingOf (take l.cut-index l.cuts) [] [] l.cutting
