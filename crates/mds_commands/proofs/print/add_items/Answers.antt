use Rattle.std.proofs.Common.{◌++◌, refl, rules, string_bytes, get_or}
use Rattle.mds_trace.specs.declared.report.Verdict.TheVariants.{Accepted}
use Rattle.mds_table.specs.declared.state.State.TheVariants.{Removed}
use Rattle.mds_commands.specs.Text.{item_line, item_lines}
use Rattle.mds_io.specs.Page.{AppendsFront}
use Rattle.mds_io.proofs.PageLemmas.{line_added, line_stopped, next_item_or}
use Rattle.mds_commands.proofs.print.add_items.Goals as goal

pub returns-in_err-add_line-clause-err : goal.returns-in_err-add_line-clause-err
returns-in_err-add_line-clause-err g c =
    let contents = g.W.Write.contents in
    let text = string_bytes c.args.page.now ++ item_lines 0 c.args.lines.now in
    let here = c.loop-index in
    let item = get_or c.args.lines.now here.index (Accepted Removed) in
    let stopped : AppendsFront (contents c.args.writer.now) (contents c.add_line.new.writer) text =
    line_stopped item_line item_lines (λ i x xs. refl) c.args.lines.now (contents c.args.writer.now) text here.index item
    (contents here.writer) (contents c.add_line.new.writer) (string_bytes here.page)
    (next_item_or c.args.lines.now here.index (Accepted Removed) c.loop-index-test.true) here.invariant c.in_err-add_line.ensures.err in
    search rules

pub loop-index-preserved : goal.loop-index-preserved
loop-index-preserved g c =
    let contents = g.W.Write.contents in
    let text = string_bytes c.args.page.now ++ item_lines 0 c.args.lines.now in
    let here = c.loop-index in
    let item = get_or c.args.lines.now here.index (Accepted Removed) in
    line_added item_line item_lines (λ i x xs. refl) c.args.lines.now (contents c.args.writer.now) text here.index item
    (contents here.writer) (contents c.add_line.new.writer) (string_bytes here.page) (string_bytes c.add_line.new.page)
    (next_item_or c.args.lines.now here.index (Accepted Removed) c.loop-index-test.true) here.invariant c.in_ok-add_line.ensures.ok
