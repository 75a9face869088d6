use Rattle.std.proofs.Common.{◌≡◌, ◌-◌, ◌^◌}
use Rattle.mds_journal.specs.Stream.{IsStream, lines_given, most_of, unread_of}
use Rattle.mds_commands.proofs.GateLemmas.{SoFar}
use Rattle.mds_commands.proofs.vehicles.gate.take_group.Given as goal

-- the lines so far
abbrev pub invariant-texts : goal.invariant-texts
invariant-texts g l = record {
  stream : IsStream l.lines;
  limit : most_of l.lines ≡ most_of l.initial.lines;
  far : SoFar (unread_of g.R.Read.remaining l.initial.lines) (unread_of g.R.Read.remaining l.lines) l.check;
}

abbrev pub decreases-texts : goal.decreases-texts
decreases-texts g l = 2 ^ 64 - lines_given l.lines
