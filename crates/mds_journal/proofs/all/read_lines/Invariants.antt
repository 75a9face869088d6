use Rattle.std.proofs.Common.{◌≡◌, ◌++◌, ◌-◌, ◌^◌, map}
use Rattle.mds_journal.specs.Device.{Untouched}
use Rattle.mds_journal.specs.Lines.{recovered_texts}
use Rattle.mds_journal.specs.Opening.{IsReading, unread_bytes}
use Rattle.mds_journal.proofs.all.read_lines.Given as goal

abbrev pub invariant-lines : goal.invariant-lines
invariant-lines g l = record {
  reading : IsReading g.D.Device.seen g.D.Device.may_leave g.D.Device.may_be_used g.D.Device.is_true l.opening;
  lines : g.D.Device.is_true l.opening.device
      → map (λ line. line.items) l.lines.items ++ recovered_texts (unread_bytes g.D.Device.seen l.opening) ≡ recovered_texts (unread_bytes g.D.Device.seen l.initial.opening);
  untouched : g.D.Device.is_true l.opening.device
      → Untouched g.D.Device.seen g.D.Device.may_leave g.D.Device.moment g.D.Device.left_since l.initial.opening.device l.opening.device;
  was_true : g.D.Device.is_true l.opening.device → g.D.Device.is_true l.initial.opening.device;
}

abbrev pub decreases-lines : goal.decreases-lines
decreases-lines g l = 2 ^ 62 - l.opening.end
