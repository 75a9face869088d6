use Rattle.std.proofs.Common.{◌≡◌, ◌⊎◌, ◌-◌, ◌^◌, ◌<◌, ◌≤◌, ◌++◌, List, ℕ, length}
use Rattle.mds_journal.specs.Lines.{recovered_texts}
use Rattle.mds_journal.specs.Opening.{place_of}
use Rattle.mds_groups.specs.Entries.{AreEntries}
use Rattle.mds_follow.specs.Reading.{HasTexts, IsAtRequest, IsReadOn}
use Rattle.mds_follow.specs.Pieces.{texts_in}
use Rattle.mds_follow.proofs.ahead.Ahead.read_groups.Given as goal

-- the lines so far are the texts of whole groups
abbrev pub invariant-groups : goal.invariant-groups
invariant-groups g l = record {
  reading : IsAtRequest g.D.Device.seen g.D.Device.may_leave g.D.Device.may_be_used g.D.Device.is_true l.self.reader.opening;
  read_on : IsReadOn g.D.Device.seen g.D.Device.may_leave g.D.Device.is_true g.D.Device.moment g.D.Device.left_since l.fn.self.reader.opening l.self.reader.opening;
  numbered : length l.self.next.numbers.items ≡ length l.self.lines.items;
  later : place_of l.fn.self.reader.opening ≤ place_of l.self.reader.opening;
  further : ((length l.self.lines.items ≡ 0) × (l.bytes ≡ 0)) ⊎ (place_of l.fn.self.reader.opening < place_of l.self.reader.opening);
  has : (before : List (List ℕ)) → HasTexts g.D.Device.seen g.D.Device.is_true l.fn.self.reader before
      → HasTexts g.D.Device.seen g.D.Device.is_true l.self.reader (before ++ texts_in l.self.lines.items);
  entries : (before : List (List ℕ)) → HasTexts g.D.Device.seen g.D.Device.is_true l.fn.self.reader before → g.D.Device.is_true l.self.reader.opening.device
      → AreEntries (recovered_texts (g.D.Device.seen l.self.reader.opening.device)) before (texts_in l.self.lines.items) l.self.next.numbers.items;
}

abbrev pub decreases-groups : goal.decreases-groups
decreases-groups g l = 2 ^ 62 - place_of l.self.reader.opening
