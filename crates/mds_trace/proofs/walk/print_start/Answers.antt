use Rattle.std.proofs.Common.{ℕ, List, ◌++◌, refl, rules, string_bytes}
use Rattle.std.proofs.lemmas.Result.{on_err_weaker, on_ok_weaker}
use Rattle.mds_io.specs.Page.{AppendsFront, Passes, with_newline}
use Rattle.mds_trace.specs.Printed.{counts_line, line_text, PrintsStart}
use Rattle.mds_io.proofs.PageLemmas.{front_of_more, passes_front, passes_to_end}
use Rattle.mds_trace.proofs.walk.print_start.Goals as goal

pub returns-in_err-add_line-clause-err : goal.returns-in_err-add_line-clause-err
returns-in_err-add_line-clause-err g c =
    let contents = g.W.Write.contents in
    let counts = with_newline (counts_line c.args.counts.events c.args.counts.refused) in
    let line = with_newline (line_text c.place_line-line.result) in
    let first : AppendsFront (contents c.args.writer.now) (contents c.add_line.new.writer) counts =
    rw c.new-page.ensures.bytes at c.in_err-add_line.ensures.err in
    let front : (text : List ℕ) × PrintsStart c.args.session.now c.args.counts text
    × AppendsFront (contents c.args.writer.now) (contents c.add_line.new.writer) text =
    (counts ++ line, (line_text c.place_line-line.result, c.place_line-line.ensures, refl), front_of_more _ _ counts line first) in
    search rules

pub returns-clause-ok : goal.returns-clause-ok
returns-clause-ok g c =
    let contents = g.W.Write.contents in
    let counts = with_newline (counts_line c.args.counts.events c.args.counts.refused) in
    let line = with_newline (line_text c.place_line-line.result) in
    let page = string_bytes c.add_line.new.page in
    let first : Passes (contents c.args.writer.now) (contents c.add_line.new.writer) counts page =
    rw c.new-page.ensures.bytes at c.in_ok-add_line.ensures.ok in
    on_ok_weaker c.end_page.result
    (λ out. (counts ++ line, (line_text c.place_line-line.result, c.place_line-line.ensures, refl), passes_to_end _ _ _ counts page line first out))
    c.end_page.ensures.ok

pub returns-clause-err : goal.returns-clause-err
returns-clause-err g c =
    let contents = g.W.Write.contents in
    let counts = with_newline (counts_line c.args.counts.events c.args.counts.refused) in
    let line = with_newline (line_text c.place_line-line.result) in
    let page = string_bytes c.add_line.new.page in
    let first : Passes (contents c.args.writer.now) (contents c.add_line.new.writer) counts page =
    rw c.new-page.ensures.bytes at c.in_ok-add_line.ensures.ok in
    on_err_weaker c.end_page.result
    (λ out. (counts ++ line, (line_text c.place_line-line.result, c.place_line-line.ensures, refl), passes_front _ _ _ counts page line first out))
    c.end_page.ensures.err
