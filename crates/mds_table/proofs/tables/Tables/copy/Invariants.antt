use Rattle.std.proofs.Common.{◌≡◌, take}
use Rattle.mds_table.proofs.tables.Tables.copy.Given as goal

-- the copies are those of the tables so far
abbrev pub invariant-loop-entry : goal.invariant-loop-entry
invariant-loop-entry l = l.entries.items ≡ take l.entry-index l.self
