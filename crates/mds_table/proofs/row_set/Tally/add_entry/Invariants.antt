use Rattle.std.proofs.Common.{take}
use Rattle.mds_table.specs.RowSet.{Grows}
use Rattle.mds_table.proofs.Adding.{IsRowFrom}
use Rattle.mds_table.proofs.row_set.Tally.add_entry.Given as goal

-- the entry's rows from the states so far are tallied
abbrev pub invariant-loop-from : goal.invariant-loop-from
invariant-loop-from l = Grows l.entry.kind l.initial.self l.self (IsRowFrom l.entry (take l.from-index l.states))
