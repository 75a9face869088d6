use Rattle.std.proofs.Common.{◌≡◌, [], take, true}
use Rattle.mds_table.specs.Row.{in_order}
use Rattle.mds_table.specs.Moves.{IsRowOfAny}
use Rattle.mds_table.specs.Entry.{Adds}
use Rattle.mds_table.proofs.moves.rows_of.Given as goal

-- the rows of the moves so far are there
abbrev pub invariant-loop-of_kind : goal.invariant-loop-of_kind
invariant-loop-of_kind l = record {
  order : in_order l.rows.items ≡ true;
  added : Adds [] l.rows.items (IsRowOfAny (take l.of_kind-index l.moves));
}
