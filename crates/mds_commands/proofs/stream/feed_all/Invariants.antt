use Rattle.std.proofs.Common.{◌≡◌, ◌≤◌, ◌+◌, ℕ, List, length}
use Rattle.std.specs.Io.KnownBytes.{Consumes}
use Rattle.mds_commands.specs.Source.{max_read}
use Rattle.mds_commands.specs.Stream.{IsFed}
use Rattle.mds_commands.proofs.stream.feed_all.Given as goal

abbrev pub invariant-loop-left : goal.invariant-loop-left
invariant-loop-left g l = record {
  fed : (bytes : List ℕ) × Consumes (g.R.Read.remaining l.initial.reader) (g.R.Read.remaining l.reader) bytes × (l.left + length bytes ≡ max_read) × IsFed bytes l.replay.stream;
  tables : l.replay.tables ≡ l.initial.replay.tables;
  opening : l.replay.opening ≡ l.initial.replay.opening;
  counted : l.calls ≤ l.initial.calls;
}

abbrev pub decreases-loop-left : goal.decreases-loop-left
decreases-loop-left g l = l.left
