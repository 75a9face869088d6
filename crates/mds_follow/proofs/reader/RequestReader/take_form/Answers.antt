use Rattle.std.proofs.Common.{◌≡◌, true, sym, subst, rules}
use Rattle.mds_journal.specs.Opening.{unread_bytes}
use Rattle.mds_follow.specs.Reading.{IsFormFault}
use Rattle.mds_follow.specs.declared.start_fault.StartFault.{StartFault}
use Rattle.mds_follow.proofs.Readings.{form_refused, form_taken, reader_with}
use Rattle.mds_follow.proofs.reader.RequestReader.take_form.Goals as goal

-- the line names a form
pub returns-clause-form : goal.returns-clause-form
returns-clause-form g c =
    let old = c.args.self.now in
    let line = c.next_line.new.line.items in
    let more : c.in-Ok-true.field-0 ≡ true = search rules in
    form_taken g.D.Device.seen g.D.Device.is_true old (reader_with old c.next_line.new.self c.take.new.self c.next_line.new.line) line c.in-Ok._group c.requires.none.1 c.requires.none.0
    (rw more at c.in-Ok-true.ensures.number) (c.in-Ok-true.ensures.line more) (rw c.deref.ensures.value at c.in-Ok.ensures.taken)

-- or not
pub returns-in-Err-take-clause-fault : goal.returns-in-Err-take-clause-fault
returns-in-Err-take-clause-fault g c truth =
    let seen = g.D.Device.seen in
    let old = c.args.self.now in
    let bytes = unread_bytes seen old.opening in
    let line = c.next_line.new.line.items in
    let more : c.in-Ok-true.field-0 ≡ true = search rules in
    let Why : StartFault → Type 0 = λ w. IsFormFault bytes w in
    subst Why (sym c.group_fault.ensures)
    (form_refused seen g.D.Device.is_true old.groups bytes (unread_bytes seen c.next_line.new.self) line c.in-Err-take.error c.requires.none.1 (c.in-Ok-true.ensures.line more truth)
    (rw c.deref.ensures.value at c.in-Err-take.ensures.fault))
