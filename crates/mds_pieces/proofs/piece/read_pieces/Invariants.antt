use Rattle.std.proofs.Common.{◌-◌, ◌≤◌}
use Rattle.mds_pieces.specs.Pieces.{AreBetween}
use Rattle.mds_pieces.proofs.piece.read_pieces.Given as goal

abbrev pub invariant-loop-begin : goal.invariant-loop-begin
invariant-loop-begin l = (l.from ≤ l.begin) × (l.begin ≤ l.to) × AreBetween l.bytes l.from l.begin l.items

abbrev pub decreases-loop-begin : goal.decreases-loop-begin
decreases-loop-begin l = l.to - l.begin
