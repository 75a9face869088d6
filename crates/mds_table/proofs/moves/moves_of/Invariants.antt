use Rattle.std.proofs.Common.{take}
use Rattle.mds_table.specs.Moves.{AreMoves}
use Rattle.mds_table.proofs.moves.moves_of.Given as goal

-- the moves have the types of the rows so far
abbrev pub invariant-loop-row : goal.invariant-loop-row
invariant-loop-row l = AreMoves l.rows (take l.row-index l.rows) l.moves.items
