use Rattle.std.proofs.Common.{◌≡◌, ◌+◌, drop, length, map}
use Rattle.mds_http.specs.Verdicts.{verdicts}
use Rattle.mds_http.proofs.response.batch.answered_items.Given as goal

-- as many more items are answered as the replies that are left say
abbrev pub invariant-loop-index : goal.invariant-loop-index
invariant-loop-index g l =
    l.index + length (verdicts (map g.I.BatchItem.wrong (drop l.index l.items)) l.left) ≡ length (verdicts (map g.I.BatchItem.wrong l.items) l.replies)
