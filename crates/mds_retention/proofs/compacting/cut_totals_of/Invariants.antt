use Rattle.std.proofs.Common.{◌≡◌, List, Bool, take}
use Rattle.mds_core.specs.declared.request.Request.{Request}
use Rattle.mds_compact.specs.Cutting.{IsCuttingOf}
use Rattle.mds_retention.specs.Copying.{cut_totals}
use Rattle.mds_retention.proofs.compacting.cut_totals_of.Given as goal

-- the totals of the cuts so far
abbrev pub invariant-loop-cut : goal.invariant-loop-cut
invariant-loop-cut l =
    (history : List Request) (marks : List Bool) → IsCuttingOf l.cuts history marks l.cutting → l.all.items ≡ cut_totals history (take l.cut-index l.cuts)
