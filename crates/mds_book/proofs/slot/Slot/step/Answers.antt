use Rattle.std.proofs.Common.{◌∙◌}
use Rattle.mds_book.proofs.Slots.{slot_next}
use Rattle.mds_book.proofs.slot.Slot.step.Goals as goal

-- the history, the ledger and the log go on together
pub invariant_of-self-2 : goal.invariant_of-self-2
invariant_of-self-2 g c =
    let is = c.self.invariant in
    let next =
    slot_next g.L.NamedLedger.tables g.row.N c.self.inside.shard c.step.new.self c.audit.new.accepted.total c.keep.new.accepted.total c.self.inside.keeper c.keep.new.keeper
    c.audit.new.self.mark c.args.request.now c.in-Ok.reply c.in-Ok.ensures.step is.0 is.1 (c.audit.ensures.total ∙ is.2) is.3 c.requires.number c.keep.ensures.total c.keep.ensures.log in
    (next.0, next.1, next.2, next.3, c.step.ensures.lawful, c.step.ensures.small)
