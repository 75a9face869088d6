use Rattle.mds_settle.proofs.Orders.{ordered_more}
use Rattle.mds_settle.proofs.order.lowered_by_order.Goals as goal

pub loop-note-preserved : goal.loop-note-preserved
loop-note-preserved c =
    ordered_more c.args.shard c.loop-note.note-index c.args.notes.now c.loop-note.next c.next_after-next.result c.note-item.result c.args.bound c.loop-note.least
    c.lowered_by_late-least.result c.loop-note-test.true c.note-item.is c.loop-note.invariant c.lowered_by_late-least.ensures c.next_after-next.ensures.kept
    c.next_after-next.ensures.asked c.next_after-next.ensures.one
