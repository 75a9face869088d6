use Rattle.mds_settle.specs.Bounds.{IsTrueBelow, IsWrongAt}
use Rattle.mds_settle.proofs.Lowering.{lowered_each}
use Rattle.mds_settle.proofs.truth.lowered_by_notes.Goals as goal

pub loop-note-preserved : goal.loop-note-preserved
loop-note-preserved c =
    lowered_each (IsTrueBelow c.args.tables.now c.args.shard c.args.history.now) (IsWrongAt c.args.tables.now c.args.shard c.args.history.now) c.args.notes.now
    c.loop-note.note-index c.note-item.result c.args.bound c.loop-note.least c.lowered_by_note-least.result
    (λ a b note lower true_here here below. true_here here (lower note.reply.place below)) c.loop-note-test.true c.note-item.is c.loop-note.invariant c.lowered_by_note-least.ensures
