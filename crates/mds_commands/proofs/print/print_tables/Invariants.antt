use Rattle.std.proofs.Common.{◌++◌, drop, string_bytes}
use Rattle.std.specs.List.{flat_map}
use Rattle.mds_io.specs.Page.{Passes}
use Rattle.mds_commands.specs.Text.{entry_text, table_text}
use Rattle.mds_commands.proofs.print.print_tables.Given as goal

-- what is left waiting is the page, and the texts of the tables that are left
abbrev pub invariant-loop-at : goal.invariant-loop-at
invariant-loop-at g l =
    Passes (g.W.Write.contents l.initial.writer) (g.W.Write.contents l.writer) (table_text l.tables)
    (string_bytes l.page ++ flat_map (entry_text l.count) (drop l.at l.tables))
