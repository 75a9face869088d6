use Rattle.std.proofs.Common.{◌≡◌, ◌+◌, ◌-◌, ◌^◌, ℕ, List, length}
use Rattle.mds_journal.specs.Stream.{IsStream, lines_given, unread_of}
use Rattle.mds_retention.specs.Telling.{Gives}
use Rattle.mds_commands.proofs.vehicles.gate.pass_lines.Given as goal

-- the lines so far
abbrev pub invariant-lines : goal.invariant-lines
invariant-lines g l = record {
  stream : IsStream l.lines;
  number : l.count ≡ lines_given l.lines;
  counted : (lines : List (List ℕ)) × Gives (unread_of g.R.Read.remaining l.initial.lines) lines (unread_of g.R.Read.remaining l.lines)
      × (lines_given l.lines ≡ lines_given l.initial.lines + length lines);
}

abbrev pub decreases-lines : goal.decreases-lines
decreases-lines g l = 2 ^ 64 - lines_given l.lines
