use Rattle.std.proofs.Common.{get_or}
use Rattle.std.specs.List.{AllPairs}
use Rattle.mds_settle.specs.Faults.{HasLate}
use Rattle.mds_settle.specs.Bounds.{IsInOrderBelow}
use Rattle.mds_settle.proofs.Lowering.{lowered_each}
use Rattle.mds_settle.proofs.order.lowered_by_orders.Goals as goal

pub loop-list-preserved : goal.loop-list-preserved
loop-list-preserved g c =
    let seen = g.S.NoteList.seen in
    lowered_each (λ bound list. AllPairs (IsInOrderBelow c.args.shard bound) (seen list)) (λ place list. HasLate c.args.shard place (seen list)) c.args.lists.now
    c.loop-list.list-index c.list-item.result c.args.bound c.loop-list.least c.lowered_by_order-least.result
    (λ a b list lower pairs i j d less within here there below. pairs i j d less within here there (lower (get_or (seen list) j d).reply.place below))
    c.loop-list-test.true c.list-item.is c.loop-list.invariant (rw (← c.notes.ensures) c.lowered_by_order-least.ensures)
