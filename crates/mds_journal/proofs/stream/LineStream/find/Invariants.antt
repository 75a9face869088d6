use Rattle.std.proofs.Common.{◌≡◌, ◌+◌, ◌-◌, length}
use Rattle.std.specs.Io.KnownBytes.{Keeps}
use Rattle.mds_journal.specs.Stream.{IsStream, unread_of, held_by}
use Rattle.mds_journal.proofs.stream.LineStream.find.Given as goal

abbrev pub invariant-reads : goal.invariant-reads
invariant-reads g l = record {
  stream : IsStream l.self;
  kept : Keeps (unread_of g.R.Read.remaining l.initial.self) (unread_of g.R.Read.remaining l.self);
  limit : l.self.longest ≡ l.initial.self.longest;
  number : l.self.count ≡ l.initial.self.count;
}

abbrev pub decreases-reads : goal.decreases-reads
decreases-reads g l = l.self.longest + 2 - length (held_by l.self)
