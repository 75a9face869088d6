use Rattle.mds_settle.proofs.Orders.{IsOrderedTo}
use Rattle.mds_settle.proofs.order.lowered_by_order.Given as goal

-- the order of the notes so far
abbrev pub invariant-loop-note : goal.invariant-loop-note
invariant-loop-note l = IsOrderedTo l.shard l.note-index l.notes l.next l.fn.bound l.least
