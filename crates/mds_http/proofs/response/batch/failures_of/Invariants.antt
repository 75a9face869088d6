use Rattle.std.proofs.Common.{◌≡◌, ◌++◌, drop, map}
use Rattle.mds_http.specs.Verdicts.{verdicts, failures_from}
use Rattle.mds_http.proofs.response.batch.failures_of.Given as goal

-- the failures so far, with those of the items that are left, are all of them
abbrev pub invariant-loop-index : goal.invariant-loop-index
invariant-loop-index g l =
    l.failures.items ++ failures_from l.index (verdicts (map g.I.BatchItem.wrong (drop l.index l.items)) l.left)
    ≡ failures_from 0 (verdicts (map g.I.BatchItem.wrong l.items) l.replies)
