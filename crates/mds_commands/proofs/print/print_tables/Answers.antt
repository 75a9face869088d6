use Rattle.std.proofs.Common.{string_bytes, arith, rules}
use Rattle.std.proofs.lemmas.Result.{on_err_weaker, on_ok_weaker}
use Rattle.mds_io.specs.Page.{AppendsFront}
use Rattle.mds_io.proofs.PageLemmas.{passes_all, passes_out}
use Rattle.mds_commands.specs.Text.{entry_text, table_text}
use Rattle.mds_commands.proofs.PrintLemmas.{page_left, text_added, text_stopped}
use Rattle.mds_commands.proofs.print.print_tables.Goals as goal

pub loop-at-preserved : goal.loop-at-preserved
loop-at-preserved g c =
    text_added c.args.tables.now (entry_text c.len-count.result) _ _ (table_text c.args.tables.now) (string_bytes c.loop-at.page) c.loop-at.at c.loop-at.invariant
    (c.in-Some.start, c.in-Some.table.now) _ _ c.in-Some.ensures c.in_ok-add_table.ensures.ok

pub returns-in_err-add_table-clause-err : goal.returns-in_err-add_table-clause-err
returns-in_err-add_table-clause-err g c =
    let contents = g.W.Write.contents in
    let front : AppendsFront (contents c.args.writer.now) (contents c.add_table.new.writer) (table_text c.args.tables.now) =
    text_stopped c.args.tables.now (entry_text c.len-count.result) _ _ (table_text c.args.tables.now) (string_bytes c.loop-at.page) c.loop-at.at c.loop-at.invariant
    (c.in-Some.start, c.in-Some.table.now) _ c.in-Some.ensures c.in_err-add_table.ensures.err in
    search rules

pub returns-clause-ok : goal.returns-clause-ok
returns-clause-ok g c =
    on_ok_weaker c.flush_page.result
    (passes_all _ _ _ (table_text c.args.tables.now) _ (page_left c.args.tables.now (entry_text c.len-count.result) _ _ _ _ c.loop-at.at c.loop-at.invariant (omega arith)))
    c.flush_page.ensures.ok

pub returns-clause-err : goal.returns-clause-err
returns-clause-err g c =
    on_err_weaker c.flush_page.result
    (passes_out _ _ _ (table_text c.args.tables.now) _ (page_left c.args.tables.now (entry_text c.len-count.result) _ _ _ _ c.loop-at.at c.loop-at.invariant (omega arith)))
    c.flush_page.ensures.err
