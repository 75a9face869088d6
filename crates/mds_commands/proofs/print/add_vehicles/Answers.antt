use Rattle.std.proofs.Common.{◌++◌, refl, rules, string_bytes}
use Rattle.mds_commands.specs.Text.{vehicle_line, vehicle_lines}
use Rattle.mds_io.specs.Page.{AppendsFront}
use Rattle.mds_io.proofs.PageLemmas.{line_added, line_stopped, next_item}
use Rattle.mds_commands.proofs.print.add_vehicles.Goals as goal

pub returns-in_err-add_line-clause-err : goal.returns-in_err-add_line-clause-err
returns-in_err-add_line-clause-err g c =
    let contents = g.W.Write.contents in
    let text = string_bytes c.args.page.now ++ vehicle_lines c.args.opening c.args.ends.now in
    let here = c.loop-end in
    let item = c.end-item.result in
    let stopped : AppendsFront (contents c.args.writer.now) (contents c.add_line.new.writer) text =
    line_stopped (λ i end. vehicle_line c.args.opening end) (λ i ends. vehicle_lines c.args.opening ends) (λ i x xs. refl) c.args.ends.now (contents c.args.writer.now) text here.end-index item
    (contents here.writer) (contents c.add_line.new.writer) (string_bytes here.page)
    (next_item c.args.ends.now here.end-index item c.loop-end-test.true c.end-item.is) here.invariant c.in_err-add_line.ensures.err in
    search rules

pub loop-end-preserved : goal.loop-end-preserved
loop-end-preserved g c =
    let contents = g.W.Write.contents in
    let text = string_bytes c.args.page.now ++ vehicle_lines c.args.opening c.args.ends.now in
    let here = c.loop-end in
    let item = c.end-item.result in
    line_added (λ i end. vehicle_line c.args.opening end) (λ i ends. vehicle_lines c.args.opening ends) (λ i x xs. refl) c.args.ends.now (contents c.args.writer.now) text here.end-index item
    (contents here.writer) (contents c.add_line.new.writer) (string_bytes here.page) (string_bytes c.add_line.new.page)
    (next_item c.args.ends.now here.end-index item c.loop-end-test.true c.end-item.is) here.invariant c.in_ok-add_line.ensures.ok
