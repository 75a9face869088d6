use Rattle.std.proofs.Common.{◌≡◌, take, true}
use Rattle.mds_table.specs.Row.{in_order}
use Rattle.mds_table.specs.Entry.{Adds}
use Rattle.mds_table.proofs.Laid.{IsRowOfMaskTo}
use Rattle.mds_table.proofs.moves.add_rows_of_mask.Given as goal

-- the rows to the states so far are there
abbrev pub invariant-loop-to : goal.invariant-loop-to
invariant-loop-to l = record {
  order : in_order l.rows.items ≡ true;
  added : Adds l.initial.rows.items l.rows.items (IsRowOfMaskTo l.from l.kind l.mask (take l.to-index l.states));
}
