use Rattle.std.proofs.Common.{◌≡◌, take}
use Rattle.mds_table.proofs.table.Table.rows.Given as goal

-- the copies are those of the rows so far
abbrev pub invariant-loop-row : goal.invariant-loop-row
invariant-loop-row l = l.rows.items ≡ take l.row-index l.self
