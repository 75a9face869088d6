use Rattle.std.proofs.Common.{◌≡◌, ◌++◌, drop, true}
use Rattle.std.specs.List.{flat_map, list_all}
use Rattle.mds_table.specs.Printed.{rows_printed, has_type_name}
use Rattle.mds_table.proofs.profile.add_lines.Given as goal

-- what is added so far, with what is left, is what is to be added, and what is left has type names
abbrev pub invariant-loop-line : goal.invariant-loop-line
invariant-loop-line l = record {
  added : l.rows.items ++ flat_map rows_printed (drop l.line-index l.lines) ≡ l.initial.rows.items ++ flat_map rows_printed l.lines;
  named : list_all has_type_name (drop l.line-index l.lines) ≡ true;
}
