use Rattle.std.specs.List.{AllPairs, Any}
use Rattle.mds_settle.specs.Faults.{HasLate}
use Rattle.mds_settle.specs.Bounds.{IsLowered, IsInOrderBelow}
use Rattle.mds_settle.proofs.Lowering.{EachOf}
use Rattle.mds_settle.proofs.order.lowered_by_orders.Given as goal

-- the bound is lowered by the lists so far
abbrev pub invariant-loop-list : goal.invariant-loop-list
invariant-loop-list g l =
    IsLowered (λ bound. EachOf l.list-index (λ list. AllPairs (IsInOrderBelow l.shard bound) (g.S.NoteList.seen list)) l.lists)
    (λ place. Any (λ list. HasLate l.shard place (g.S.NoteList.seen list)) l.lists) l.fn.bound l.least
