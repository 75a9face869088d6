use Rattle.std.proofs.Common.{◌≡◌, ◌≤◌, ◌+◌, ◌-◌, length}
use Rattle.mds_journal.specs.Device.{Untouched}
use Rattle.mds_journal.specs.Opening.{GoesOn, IsReading}
use Rattle.mds_journal.specs.declared.group.TheConstants.{MAX_GROUP_BYTES}
use Rattle.mds_journal.proofs.opening.Opening.rest.Given as goal

abbrev pub invariant-reads : goal.invariant-reads
invariant-reads g l = record {
  reading : IsReading g.D.Device.seen g.D.Device.may_leave g.D.Device.may_be_used g.D.Device.is_true l.self;
  place : l.self.end ≡ l.initial.self.end;
  limit : l.self.longest ≡ l.initial.self.longest;
  number : l.self.count ≡ l.initial.self.count;
  ahead : g.D.Device.is_true l.self.device
      → GoesOn (g.D.Device.seen l.self.device) l.self.end l.rest.items;
  untouched : g.D.Device.is_true l.self.device
      → Untouched g.D.Device.seen g.D.Device.may_leave g.D.Device.moment g.D.Device.left_since l.initial.self.device l.self.device;
  was_true : g.D.Device.is_true l.self.device → g.D.Device.is_true l.initial.self.device;
  later : g.D.Device.faults l.initial.self.device ≤ g.D.Device.faults l.self.device;
}

abbrev pub decreases-reads : goal.decreases-reads
decreases-reads g l = MAX_GROUP_BYTES + 1 - length l.rest.items
