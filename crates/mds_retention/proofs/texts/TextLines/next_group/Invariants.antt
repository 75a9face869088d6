use Rattle.std.proofs.Common.{◌≡◌, ◌-◌, ◌^◌, length}
use Rattle.mds_retention.specs.Texts.{IsReading, ReadsOn}
use Rattle.mds_retention.proofs.texts.TextLines.next_group.Given as goal

-- the lines so far ended no group with texts
abbrev pub invariant-lines : goal.invariant-lines
invariant-lines g l = record {
  reading : IsReading l.self;
  done : l.self.next ≡ length l.self.group.texts.items;
  read : ReadsOn g.R.Read.remaining l.initial.self l.self;
  count : l.self.count ≡ l.initial.self.count;
}

abbrev pub decreases-lines : goal.decreases-lines
decreases-lines g l = 2 ^ 64 - l.self.place.lines
