use Rattle.std.proofs.Common.{◌≤◌, []}
use Rattle.std.specs.Io.KnownBytes.{Consumes}
use Rattle.mds_io.proofs.read.read_again.Given as goal

abbrev pub invariant-loop-calls : goal.invariant-loop-calls
invariant-loop-calls g l = record {
  lost : Consumes (g.R.Read.remaining l.initial.reader) (g.R.Read.remaining l.reader) [];
  counted : l.calls ≤ l.initial.calls;
}

abbrev pub decreases-loop-calls : goal.decreases-loop-calls
decreases-loop-calls g l = l.calls
