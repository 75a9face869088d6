use Rattle.std.proofs.Common.{◌++◌, drop, string_bytes}
use Rattle.mds_io.specs.Page.{Passes}
use Rattle.mds_commands.specs.Text.{row_lines}
use Rattle.mds_commands.proofs.print.add_rows.Given as goal

-- what is left waiting is the page, and the lines of the rows that are left
abbrev pub invariant-loop-row : goal.invariant-loop-row
invariant-loop-row g l =
    Passes (g.W.Write.contents l.initial.writer) (g.W.Write.contents l.writer) (string_bytes l.initial.page ++ row_lines l.rows)
    (string_bytes l.page ++ row_lines (drop l.row-index l.rows))
