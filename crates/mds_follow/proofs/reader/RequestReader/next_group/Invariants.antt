use Rattle.std.proofs.Common.{◌-◌, ◌^◌, ◌≤◌, List, ℕ}
use Rattle.mds_journal.specs.Opening.{place_of}
use Rattle.mds_follow.specs.Reading.{HasTexts, IsAtRequest, IsReadOn}
use Rattle.mds_follow.proofs.reader.RequestReader.next_group.Given as goal

-- the lines so far ended no group
abbrev pub invariant-lines : goal.invariant-lines
invariant-lines g l = record {
  reading : IsAtRequest g.D.Device.seen g.D.Device.may_leave g.D.Device.may_be_used g.D.Device.is_true l.self.opening;
  read_on : IsReadOn g.D.Device.seen g.D.Device.may_leave g.D.Device.is_true g.D.Device.moment g.D.Device.left_since l.fn.self.opening l.self.opening;
  later : place_of l.fn.self.opening ≤ place_of l.self.opening;
  has : (before : List (List ℕ)) → HasTexts g.D.Device.seen g.D.Device.is_true l.fn.self before → HasTexts g.D.Device.seen g.D.Device.is_true l.self before;
}

abbrev pub decreases-lines : goal.decreases-lines
decreases-lines g l = 2 ^ 62 - place_of l.self.opening
