use Rattle.std.proofs.Common.{rules, of_calls}
use Rattle.std.proofs.lemmas.Fn.{always_returns_same}
use Rattle.mds_table.specs.Row.{row_of, row_cmp}
use Rattle.mds_table.specs.RowLaws.{row_cmp_total}
use Rattle.mds_table.proofs.RowOrder.{same_row_by_cmp}
use Rattle.mds_table.proofs.Ascending.{searched, decided}
use Rattle.mds_table.proofs.row.has_row_of.Goals as goal

pub returns : goal.returns
returns c =
    let row = row_of c.args.from c.args.kind.now c.args.to in
    let found = c.binary_search_by.ensures.position (λ other. row_cmp other row) (always_returns_same _ _ _ (λ a r f called. search (rules, of_calls))) in
    decided row_cmp c.args.rows.now row c.binary_search_by.result c.is_ok.result c.is_ok.ensures.value
    (searched row_cmp_total same_row_by_cmp c.args.rows.now row c.binary_search_by.result c.requires c.binary_search_by.ensures.bound found)
