use Rattle.std.proofs.Common.{rules, ◌++◌, length, string_bytes}
use Rattle.std.proofs.lemmas.Result.{on_err_weaker, on_ok_weaker}
use Rattle.mds_io.specs.Page.{AppendsFront}
use Rattle.mds_commands.specs.Text.{count_line, heading, row_lines, rows_text}
use Rattle.mds_commands.proofs.PrintLemmas.{front_of_both, first_passed, both_pass, line_last, second_stops}
use Rattle.mds_commands.proofs.print.add_table.Goals as goal

pub returns-in_err-add_heading-clause-err : goal.returns-in_err-add_heading-clause-err
returns-in_err-add_heading-clause-err g c =
    let contents = g.W.Write.contents in
    let page = string_bytes c.args.page.now in
    let first = heading c.args.count c.args.start in
    let second = rows_text c.args.table.now in
    let front : AppendsFront (contents c.args.writer.now) (contents c.add_heading.new.writer) (page ++ (first ++ second)) =
    front_of_both page first second _ _ c.in_err-add_heading.ensures.err in
    search rules

pub returns-in_default-clause-err : goal.returns-in_default-clause-err
returns-in_default-clause-err g c =
    let first = heading c.args.count c.args.start in
    let passed = c.in_ok-add_heading.ensures.ok in
    first_passed (string_bytes c.args.page.now) first (rows_text c.args.table.now) (string_bytes c.add_heading.new.page) _ _ (line_last (row_lines c.args.table.now) (count_line (length c.args.table.now))) passed

pub returns-clause-ok : goal.returns-clause-ok
returns-clause-ok g c =
    let first = heading c.args.count c.args.start in
    on_ok_weaker c.add_counted.result
    (both_pass (string_bytes c.args.page.now) first (rows_text c.args.table.now) _ _ _ _ _ c.in_ok-add_heading.ensures.ok)
    (rw (c.deref.ensures.value, c.in-Ok.ensures.rows) at c.add_counted.ensures.ok)

pub returns-clause-err : goal.returns-clause-err
returns-clause-err g c =
    let first = heading c.args.count c.args.start in
    on_err_weaker c.add_counted.result
    (second_stops (string_bytes c.args.page.now) first (rows_text c.args.table.now) _ _ _ _ c.in_ok-add_heading.ensures.ok)
    (rw (c.deref.ensures.value, c.in-Ok.ensures.rows) at c.add_counted.ensures.err)
