use Rattle.std.proofs.Common.{◌++◌, refl, rules, string_bytes}
use Rattle.mds_city.specs.CompactText.{cut_line, cut_lines}
use Rattle.mds_io.specs.Page.{AppendsFront}
use Rattle.mds_io.proofs.PageLemmas.{line_added, line_stopped, next_item}
use Rattle.mds_city.proofs.compacted.add_cuts.Goals as goal

pub returns-in_err-add_line-clause-err : goal.returns-in_err-add_line-clause-err
returns-in_err-add_line-clause-err g c =
    let contents = g.W.Write.contents in
    let text = string_bytes c.args.page.now ++ cut_lines c.args.cuts.now in
    let here = c.loop-cut in
    let item = c.cut-item.result in
    let stopped : AppendsFront (contents c.args.writer.now) (contents c.add_line.new.writer) text =
    line_stopped (λ i cut. cut_line cut) (λ i cuts. cut_lines cuts) (λ i x xs. refl) c.args.cuts.now (contents c.args.writer.now) text here.cut-index item
    (contents here.writer) (contents c.add_line.new.writer) (string_bytes here.page)
    (next_item c.args.cuts.now here.cut-index item c.loop-cut-test.true c.cut-item.is) here.invariant c.in_err-add_line.ensures.err in
    search rules

pub loop-cut-preserved : goal.loop-cut-preserved
loop-cut-preserved g c =
    let contents = g.W.Write.contents in
    let text = string_bytes c.args.page.now ++ cut_lines c.args.cuts.now in
    let here = c.loop-cut in
    let item = c.cut-item.result in
    line_added (λ i cut. cut_line cut) (λ i cuts. cut_lines cuts) (λ i x xs. refl) c.args.cuts.now (contents c.args.writer.now) text here.cut-index item
    (contents here.writer) (contents c.add_line.new.writer) (string_bytes here.page) (string_bytes c.add_line.new.page)
    (next_item c.args.cuts.now here.cut-index item c.loop-cut-test.true c.cut-item.is) here.invariant c.in_ok-add_line.ensures.ok
