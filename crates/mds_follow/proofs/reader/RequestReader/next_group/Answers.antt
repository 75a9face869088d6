use Rattle.std.proofs.Common.{◌≡◌, ◌+◌, ◌∙◌, ℕ, Err, true, sym, ap, subst, arith, rules}
use Rattle.mds_journal.specs.Opening.{number_of, unread_bytes, IsTooLong}
use Rattle.mds_journal.specs.declared.opening.OpenError.{OpenError}
use Rattle.mds_journal.proofs.MomentLemmas.{still_untouched}
use Rattle.mds_follow.specs.Reading.{StopsBehind}
use Rattle.mds_follow.specs.declared.start_fault.StartFault.{StartFault}
use Rattle.mds_follow.proofs.Readings.{group_taken, group_there, line_stops, line_taken, open_stops, reader_with}
use Rattle.mds_follow.proofs.reader.RequestReader.next_group.Goals as goal

-- the next line can't be handed out
pub returns-in-Err-clause-next : goal.returns-in-Err-clause-next
returns-in-Err-clause-next g c before has truth =
    let seen = g.D.Device.seen in
    let was = c.lines.invariant in
    let old = c.lines.self in
    let file = seen c.next_line.new.self.device in
    let Stops : StartFault → Type 0 = λ w. StopsBehind file before w in
    let Long : ℕ → Type 0 = λ n. IsTooLong n (unread_bytes seen old.opening) in
    subst Stops (sym c.line_fault.ensures)
    (open_stops seen g.D.Device.is_true old file before (was.has before has) (c.in-Err.ensures.was_true truth) (c.in-Err.ensures.untouched truth).file c.number-number.result c.in-Err.error
    c.number-number.ensures (λ is. subst Long was.reading.limit (c.in-Err.ensures.too_long (ap (λ (w : OpenError). Err w) is) truth)))

-- it goes on with no group
pub returns-in-Err-take-clause-next : goal.returns-in-Err-take-clause-next
returns-in-Err-take-clause-next g c before has truth =
    let seen = g.D.Device.seen in
    let was = c.lines.invariant in
    let old = c.lines.self in
    let new = c.next_line.new.self in
    let file = seen new.device in
    let more : c.in-Ok-true.field-0 ≡ true = search rules in
    let Stops : StartFault → Type 0 = λ w. StopsBehind file before w in
    subst Stops (sym c.group_fault.ensures)
    (line_stops seen g.D.Device.is_true old file before (was.has before has) (c.in-Ok-true.ensures.was_true truth) (c.in-Ok-true.ensures.untouched truth).file c.next_line.new.line.items
    (unread_bytes seen new) c.in-Err-take.error (c.in-Ok-true.ensures.line more truth) (rw (c.deref.ensures.value, c.number-number.ensures) at c.in-Err-take.ensures.fault))

-- it ends a group
pub returns-in-Ok-Some-clause-next : goal.returns-in-Ok-Some-clause-next
returns-in-Ok-Some-clause-next g c before has =
    let seen = g.D.Device.seen in
    let is_true = g.D.Device.is_true in
    let old = c.lines.self in
    let so_far = c.lines.invariant.has before has in
    let new = reader_with old c.next_line.new.self c.take.new.self c.next_line.new.line in
    let line = c.next_line.new.line.items in
    let more : c.in-Ok-true.field-0 ≡ true = search rules in
    let number : number_of new.opening ≡ number_of old.opening + 1 = rw more at c.in-Ok-true.ensures.number in
    let same = λ (truth : is_true new.opening.device). (c.in-Ok-true.ensures.untouched truth).file in
    let takes = rw (c.deref.ensures.value, c.number-number.ensures, c.in-Ok-Some.field-0-is) at c.in-Ok-Some.ensures.taken in (
      group_taken seen is_true old new line before so_far number c.in-Ok-true.ensures.was_true same (c.in-Ok-true.ensures.line more) c.in-Ok-Some.group takes,
      λ truth. group_there seen is_true old new line before so_far number c.in-Ok-true.ensures.was_true same (c.in-Ok-true.ensures.line more) c.in-Ok-Some.group takes truth,
    )

-- it ends none
pub lines-preserved : goal.lines-preserved
lines-preserved g c =
    let seen = g.D.Device.seen in
    let is_true = g.D.Device.is_true in
    let was = c.lines.invariant in
    let first = c.args.self.now.opening in
    let old = c.lines.self in
    let new = reader_with old c.next_line.new.self c.take.new.self c.next_line.new.line in
    let line = c.next_line.new.line.items in
    let more : c.in-Ok-true.field-0 ≡ true = search rules in
    let number : number_of new.opening ≡ number_of old.opening + 1 = rw more at c.in-Ok-true.ensures.number in
    let takes = rw (c.deref.ensures.value, c.number-number.ensures, c.in-Ok-None.field-0-is) at c.in-Ok-None.ensures.taken in
    record {
      reading = record { reading = c.in-Ok-true.ensures.reading; limit = c.in-Ok-true.ensures.limit ∙ was.reading.limit };
      read_on = record {
        untouched = λ truth.
            still_untouched seen g.D.Device.may_leave g.D.Device.moment g.D.Device.left_since first.device old.opening.device new.opening.device
            (was.read_on.untouched (c.in-Ok-true.ensures.was_true truth)) (c.in-Ok-true.ensures.untouched truth);
        was_true = λ truth. was.read_on.was_true (c.in-Ok-true.ensures.was_true truth);
      };
      later = omega (arith, was.later, c.in-Ok-true.ensures.further more);
      has = λ before has.
          line_taken seen is_true old new line before (was.has before has) number c.in-Ok-true.ensures.was_true (λ truth. (c.in-Ok-true.ensures.untouched truth).file)
          (c.in-Ok-true.ensures.line more) takes;
    }
