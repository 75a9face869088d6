use Rattle.std.specs.List.{All, Any}
use Rattle.mds_settle.specs.Bounds.{IsLowered, IsTrueBelow, IsWrongAt}
use Rattle.mds_settle.proofs.Lowering.{EachOf}
use Rattle.mds_settle.proofs.truth.lowered_by_lists.Given as goal

-- the bound is lowered by the lists so far
abbrev pub invariant-loop-list : goal.invariant-loop-list
invariant-loop-list g l =
    IsLowered (λ bound. EachOf l.list-index (λ list. All (IsTrueBelow l.tables l.shard l.history bound) (g.S.NoteList.seen list)) l.lists)
    (λ place. Any (λ list. Any (IsWrongAt l.tables l.shard l.history place) (g.S.NoteList.seen list)) l.lists) l.fn.bound l.least
