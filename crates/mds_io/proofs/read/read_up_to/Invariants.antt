use Rattle.std.proofs.Common.{◌≡◌, ◌<◌, ◌≤◌, ◌-◌, length}
use Rattle.mds_io.specs.Read.{Gains}
use Rattle.mds_io.proofs.read.read_up_to.Given as goal

abbrev pub invariant-loop-reader : goal.invariant-loop-reader
invariant-loop-reader g l = record {
  gained : Gains (l.limit - length l.initial.bytes.items) (g.R.Read.remaining l.initial.reader) (g.R.Read.remaining l.reader) l.initial.bytes.items l.bytes.items;
  same_room : length l.room ≡ length l.initial.room;
  counted : l.calls ≤ l.initial.calls;
  spent : length l.initial.bytes.items < length l.bytes.items → l.calls < l.initial.calls;
}

abbrev pub decreases-loop-reader : goal.decreases-loop-reader
decreases-loop-reader g l = l.calls
