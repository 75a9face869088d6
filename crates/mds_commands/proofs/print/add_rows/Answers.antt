use Rattle.std.proofs.Common.{◌++◌, refl, rules, string_bytes}
use Rattle.mds_commands.specs.Text.{row_line, row_lines}
use Rattle.mds_io.specs.Page.{AppendsFront}
use Rattle.mds_io.proofs.PageLemmas.{line_added, line_stopped, next_item}
use Rattle.mds_commands.proofs.print.add_rows.Goals as goal

pub returns-in_err-add_line-clause-err : goal.returns-in_err-add_line-clause-err
returns-in_err-add_line-clause-err g c =
    let contents = g.W.Write.contents in
    let text = string_bytes c.args.page.now ++ row_lines c.args.rows.now in
    let here = c.loop-row in
    let item = c.row-item.result in
    let stopped : AppendsFront (contents c.args.writer.now) (contents c.add_line.new.writer) text =
    line_stopped (λ i row. row_line row) (λ i rows. row_lines rows) (λ i x xs. refl) c.args.rows.now (contents c.args.writer.now) text here.row-index item
    (contents here.writer) (contents c.add_line.new.writer) (string_bytes here.page)
    (next_item c.args.rows.now here.row-index item c.loop-row-test.true c.row-item.is) here.invariant c.in_err-add_line.ensures.err in
    search rules

pub loop-row-preserved : goal.loop-row-preserved
loop-row-preserved g c =
    let contents = g.W.Write.contents in
    let text = string_bytes c.args.page.now ++ row_lines c.args.rows.now in
    let here = c.loop-row in
    let item = c.row-item.result in
    line_added (λ i row. row_line row) (λ i rows. row_lines rows) (λ i x xs. refl) c.args.rows.now (contents c.args.writer.now) text here.row-index item
    (contents here.writer) (contents c.add_line.new.writer) (string_bytes here.page) (string_bytes c.add_line.new.page)
    (next_item c.args.rows.now here.row-index item c.loop-row-test.true c.row-item.is) here.invariant c.in_ok-add_line.ensures.ok
