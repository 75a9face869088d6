use Rattle.std.proofs.Common.{ℕ, List, Option, inr}
use Rattle.mds_table.specs.Tables.{Tables}
use Rattle.mds_io.specs.declared.page.PrintError.{PrintError}
use Rattle.mds_io.specs.declared.page.PrintError.TheVariants as write
use Rattle.mds_commands.specs.declared.source.Source.{Source}
use Rattle.mds_io.specs.Page.{AppendsFront}
use Rattle.mds_commands.specs.Problem.{written_problem}
use Rattle.mds_commands.specs.Source.{HasTablesIn}
use Rattle.mds_commands.specs.Text.{table_text}
use Rattle.mds_commands.specs.Command.{ExplainsPrint, TableWentOut}
use Rattle.mds_commands.proofs.ErrorLemmas.{passed_on}
use Rattle.mds_commands.proofs.commands.table_into.Goals as goal

-- a table that could not be written is explained, and a front of it went out
unwritten : {T : Type 0} (table_bytes : T → Option (List ℕ)) (table : Option (Source T)) (fault : PrintError) (old new : Option (List ℕ)) (tables : Tables)
    → HasTablesIn table_bytes table tables → AppendsFront old new (table_text tables)
    → ExplainsPrint table_bytes table (written_problem fault) × TableWentOut table_bytes table (written_problem fault) old new
unwritten table_bytes table write.Memory old new tables has front = (tt, inr (tables, has, front))
unwritten table_bytes table write.Device old new tables has front = (tt, (tables, has, front))

pub returns-in_err-print_tables-clause-err : goal.returns-in_err-print_tables-clause-err
returns-in_err-print_tables-clause-err g c =
    passed_on _ _ _ c.from_residual-in_err-print_tables.ensures.1
    (unwritten g.T.Read.remaining c.args.table c.in_err-print_tables.field-0.0
    (g.W.Write.contents c.args.out.now) (g.W.Write.contents c.print_tables.new.writer)
    c.in_ok-tables.tables c.in_ok-tables.ensures.ok c.in_err-print_tables.ensures.err)
