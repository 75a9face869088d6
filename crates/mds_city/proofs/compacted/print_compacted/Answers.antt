use Rattle.std.proofs.Common.{rules, ◌++◌, string_bytes}
use Rattle.std.proofs.lemmas.Result.{on_err_weaker, on_ok_weaker}
use Rattle.mds_io.specs.Page.{AppendsFront, Passes, with_newline}
use Rattle.mds_city.specs.CompactText.{compact_line, cut_lines}
use Rattle.mds_io.proofs.PageLemmas.{passes_to_end, passes_front, front_of_more}
use Rattle.mds_city.proofs.compacted.print_compacted.Goals as goal

pub returns-in_err-add_cuts-clause-err : goal.returns-in_err-add_cuts-clause-err
returns-in_err-add_cuts-clause-err g c =
    let contents = g.W.Write.contents in
    let cuts = cut_lines c.args.compacted.now.cuts.items in
    let total = with_newline (compact_line c.args.compacted.now.totals) in
    let first : AppendsFront (contents c.args.writer.now) (contents c.add_cuts.new.writer) cuts = rw (c.new-page.ensures.bytes, c.deref.ensures.value) at c.in_err-add_cuts.ensures.err in
    let front : AppendsFront (contents c.args.writer.now) (contents c.add_cuts.new.writer) (cuts ++ total) = front_of_more _ _ cuts total first in
    search rules

pub returns-clause-ok : goal.returns-clause-ok
returns-clause-ok g c =
    let contents = g.W.Write.contents in
    let cuts = cut_lines c.args.compacted.now.cuts.items in
    let page = string_bytes c.add_cuts.new.page in
    let first : Passes (contents c.args.writer.now) (contents c.add_cuts.new.writer) cuts page = rw (c.new-page.ensures.bytes, c.deref.ensures.value) at c.in_ok-add_cuts.ensures.ok in
    on_ok_weaker c.end_page.result (passes_to_end _ _ _ cuts page _ first) c.end_page.ensures.ok

pub returns-clause-err : goal.returns-clause-err
returns-clause-err g c =
    let contents = g.W.Write.contents in
    let cuts = cut_lines c.args.compacted.now.cuts.items in
    let page = string_bytes c.add_cuts.new.page in
    let first : Passes (contents c.args.writer.now) (contents c.add_cuts.new.writer) cuts page = rw (c.new-page.ensures.bytes, c.deref.ensures.value) at c.in_ok-add_cuts.ensures.ok in
    on_err_weaker c.end_page.result (passes_front _ _ _ cuts page _ first) c.end_page.ensures.err
