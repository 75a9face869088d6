use Rattle.std.specs.List.{All, Any}
use Rattle.std.proofs.Common.{get_or}
use Rattle.mds_settle.specs.Bounds.{IsTrueBelow, IsWrongAt}
use Rattle.mds_settle.proofs.Lowering.{lowered_each}
use Rattle.mds_settle.proofs.truth.lowered_by_lists.Goals as goal

pub loop-list-preserved : goal.loop-list-preserved
loop-list-preserved g c =
    let seen = g.S.NoteList.seen in
    lowered_each (λ bound list. All (IsTrueBelow c.args.tables.now c.args.shard c.args.history.now bound) (seen list))
    (λ place list. Any (IsWrongAt c.args.tables.now c.args.shard c.args.history.now place) (seen list)) c.args.lists.now
    c.loop-list.list-index c.list-item.result c.args.bound c.loop-list.least c.lowered_by_notes-least.result
    (λ a b list lower each k d within here below. each k d within here (lower (get_or (seen list) k d).reply.place below)) c.loop-list-test.true c.list-item.is c.loop-list.invariant
    (rw (← c.notes.ensures) c.lowered_by_notes-least.ensures)
