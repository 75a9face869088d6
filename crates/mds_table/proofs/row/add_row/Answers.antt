use Rattle.std.proofs.Common.{Ok, Err, sym, ◌∙◌, ap, rules, of_calls}
use Rattle.std.specs.List.{insert}
use Rattle.std.proofs.lemmas.Fn.{always_returns_same}
use Rattle.mds_table.specs.Row.{row_cmp, ascends}
use Rattle.mds_table.specs.RowLaws.{row_cmp_total}
use Rattle.mds_table.proofs.RowOrder.{same_row_by_cmp}
use Rattle.mds_table.proofs.Ascending.{searched, insert_adds, nothing_added}
use Rattle.mds_table.proofs.row.add_row.Goals as goal

pub returns-in_ok-insert-clause-order : goal.returns-in_ok-insert-clause-order
returns-in_ok-insert-clause-order c =
    let row = c.args.row in
    let found = c.in-Err.ensures.position (λ other. row_cmp other row) (always_returns_same _ _ _ (λ a r f called. search (rules, of_calls))) in
    let up = ap (ascends row_cmp) c.deref.ensures.value ∙ c.requires in
    let place = searched row_cmp_total same_row_by_cmp c.deref.result.now row (Err c.in-Err.at) up c.in-Err.ensures.bound found in
    ap (ascends row_cmp) (c.in_ok-insert.ensures.items ∙ ap (λ rows. insert rows c.in-Err.at row) (sym c.deref.ensures.value))
    ∙ place.1

pub returns-in_ok-insert-clause-rows : goal.returns-in_ok-insert-clause-rows
returns-in_ok-insert-clause-rows c =
    rw c.in_ok-insert.ensures.items (insert_adds c.args.rows.now.items c.in-Err.at c.args.row)

pub returns-in_default-clause-rows : goal.returns-in_default-clause-rows
returns-in_default-clause-rows c =
    let row = c.args.row in
    let found = c.in_default.ensures.position (λ other. row_cmp other row) (always_returns_same _ _ _ (λ a r f called. search (rules, of_calls))) in
    let up = ap (ascends row_cmp) c.deref.ensures.value ∙ c.requires in
    let place = searched row_cmp_total same_row_by_cmp c.deref.result.now row (Ok c.in_default.field-0) up c.in_default.ensures.bound found in
    nothing_added c.args.rows.now.items row (rw c.deref.ensures.value at place)
