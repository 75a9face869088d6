use Rattle.std.proofs.Common.{◌≡◌, take, true}
use Rattle.mds_table.specs.Row.{in_order}
use Rattle.mds_table.specs.Entry.{Adds}
use Rattle.mds_table.proofs.Laid.{IsRowOfFrom}
use Rattle.mds_table.proofs.moves.add_rows_of.Given as goal

-- the rows from the states so far are there
abbrev pub invariant-loop-from : goal.invariant-loop-from
invariant-loop-from l = record {
  order : in_order l.rows.items ≡ true;
  added : Adds l.initial.rows.items l.rows.items (IsRowOfFrom l.moves (take l.from-index l.states));
}
