use Rattle.std.proofs.Common.{rules, ◌++◌, string_bytes, length}
use Rattle.std.proofs.lemmas.Result.{on_err_weaker, on_ok_weaker}
use Rattle.mds_io.specs.Page.{AppendsFront, with_newline}
use Rattle.mds_commands.specs.Text.{row_lines, count_line, rows_text}
use Rattle.mds_commands.proofs.PrintLemmas.{front_of_both, both_pass, second_stops}
use Rattle.mds_commands.proofs.print.add_counted.Goals as goal

pub returns-in_err-add_rows-clause-err : goal.returns-in_err-add_rows-clause-err
returns-in_err-add_rows-clause-err g c =
    let contents = g.W.Write.contents in
    let page = string_bytes c.args.page.now in
    let rows = c.args.rows.now in
    let front : AppendsFront (contents c.args.writer.now) (contents c.add_rows.new.writer) (page ++ rows_text rows) =
    front_of_both page (row_lines rows) (with_newline (count_line (length rows))) _ _ c.in_err-add_rows.ensures.err in
    search rules

pub returns-clause-ok : goal.returns-clause-ok
returns-clause-ok g c =
    let rows = c.args.rows.now in
    let count = with_newline (count_line (length rows)) in
    on_ok_weaker c.add_line.result
    (both_pass (string_bytes c.args.page.now) (row_lines rows) count _ _ _ _ _ c.in_ok-add_rows.ensures.ok)
    c.add_line.ensures.ok

pub returns-clause-err : goal.returns-clause-err
returns-clause-err g c =
    let rows = c.args.rows.now in
    let count = with_newline (count_line (length rows)) in
    on_err_weaker c.add_line.result
    (second_stops (string_bytes c.args.page.now) (row_lines rows) count _ _ _ _ c.in_ok-add_rows.ensures.ok)
    c.add_line.ensures.err
