use Rattle.std.proofs.Common.{rules, ◌++◌, string_bytes}
use Rattle.std.proofs.lemmas.Result.{on_err_weaker, on_ok_weaker}
use Rattle.mds_io.specs.Page.{AppendsFront, Passes, with_newline}
use Rattle.mds_commands.specs.Text.{item_lines, vehicle_lines, total_line}
use Rattle.mds_io.proofs.PageLemmas.{passes_then, passes_to_end, passes_front, front_of_more}
use Rattle.mds_commands.proofs.print.print_report.Goals as goal

pub returns-in_err-add_items-clause-err : goal.returns-in_err-add_items-clause-err
returns-in_err-add_items-clause-err g c =
    let contents = g.W.Write.contents in
    let report = c.args.report.now in
    let items = item_lines 0 report.lines.items in
    let ends = vehicle_lines c.args.opening report.vehicles.items in
    let total = with_newline (total_line report.accepted report.refused) in
    let first : AppendsFront (contents c.args.writer.now) (contents c.add_items.new.writer) items =
    rw (c.new-page.ensures.bytes, c.deref.ensures.value) at c.in_err-add_items.ensures.err in
    let front : AppendsFront (contents c.args.writer.now) (contents c.add_items.new.writer) (items ++ ends ++ total) =
    front_of_more _ _ (items ++ ends) total (front_of_more _ _ items ends first) in
    search rules

pub returns-in_err-add_vehicles-clause-err : goal.returns-in_err-add_vehicles-clause-err
returns-in_err-add_vehicles-clause-err g c =
    let contents = g.W.Write.contents in
    let report = c.args.report.now in
    let items = item_lines 0 report.lines.items in
    let ends = vehicle_lines c.args.opening report.vehicles.items in
    let total = with_newline (total_line report.accepted report.refused) in
    let page = string_bytes c.add_items.new.page in
    let first : Passes (contents c.args.writer.now) (contents c.add_items.new.writer) items page =
    rw (c.new-page.ensures.bytes, c.deref.ensures.value) at c.in_ok-add_items.ensures.ok in
    let second : AppendsFront (contents c.add_items.new.writer) (contents c.add_vehicles.new.writer) (page ++ ends) =
    rw c.deref-2.ensures.value at c.in_err-add_vehicles.ensures.err in
    let front : AppendsFront (contents c.args.writer.now) (contents c.add_vehicles.new.writer) (items ++ ends ++ total) =
    front_of_more _ _ (items ++ ends) total (passes_front _ _ _ items page ends first second) in
    search rules

pub returns-clause-ok : goal.returns-clause-ok
returns-clause-ok g c =
    let contents = g.W.Write.contents in
    let report = c.args.report.now in
    let items = item_lines 0 report.lines.items in
    let ends = vehicle_lines c.args.opening report.vehicles.items in
    let page = string_bytes c.add_items.new.page in
    let first : Passes (contents c.args.writer.now) (contents c.add_items.new.writer) items page =
    rw (c.new-page.ensures.bytes, c.deref.ensures.value) at c.in_ok-add_items.ensures.ok in
    let second : Passes (contents c.add_items.new.writer) (contents c.add_vehicles.new.writer) (page ++ ends) (string_bytes c.add_vehicles.new.page) =
    rw c.deref-2.ensures.value at c.in_ok-add_vehicles.ensures.ok in
    on_ok_weaker c.end_page.result
    (passes_to_end _ _ _ (items ++ ends) (string_bytes c.add_vehicles.new.page) _ (passes_then _ _ _ items page ends _ first second))
    c.end_page.ensures.ok

pub returns-clause-err : goal.returns-clause-err
returns-clause-err g c =
    let contents = g.W.Write.contents in
    let report = c.args.report.now in
    let items = item_lines 0 report.lines.items in
    let ends = vehicle_lines c.args.opening report.vehicles.items in
    let page = string_bytes c.add_items.new.page in
    let first : Passes (contents c.args.writer.now) (contents c.add_items.new.writer) items page =
    rw (c.new-page.ensures.bytes, c.deref.ensures.value) at c.in_ok-add_items.ensures.ok in
    let second : Passes (contents c.add_items.new.writer) (contents c.add_vehicles.new.writer) (page ++ ends) (string_bytes c.add_vehicles.new.page) =
    rw c.deref-2.ensures.value at c.in_ok-add_vehicles.ensures.ok in
    on_err_weaker c.end_page.result
    (passes_front _ _ _ (items ++ ends) (string_bytes c.add_vehicles.new.page) _ (passes_then _ _ _ items page ends _ first second))
    c.end_page.ensures.err
