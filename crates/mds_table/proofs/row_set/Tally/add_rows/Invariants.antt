use Rattle.std.proofs.Common.{take}
use Rattle.mds_table.specs.Entry.{IsRowTo}
use Rattle.mds_table.specs.RowSet.{Grows}
use Rattle.mds_table.proofs.row_set.Tally.add_rows.Given as goal

-- the rows to the states so far are tallied
abbrev pub invariant-loop-to : goal.invariant-loop-to
invariant-loop-to l = Grows l.entry.kind l.initial.self l.self (IsRowTo l.from l.entry (take l.to-index l.states))
