-- The laws of the comparisons of rows.
use Rattle.std.specs.Prelude.{◌≡◌}
use Rattle.std.specs.Ordering.{nat_cmp, eq_by_cmp, ordering_then}
use Rattle.std.specs.Cmp.{IsEquivalence, IsTotalOrder, and_equiv, on_equiv, on_total}
use Rattle.std.specs.Cmp.{then_total, nat_eq_equiv, nat_cmp_total, both_tied, unsigned_ties}
use Rattle.std.specs.Cmp.Lexicographic.{slice_cmp, nat_list_eq_equiv}
use Rattle.std.specs.Cmp.Lexicographic.{nat_list_cmp_total, texts_ties}
use Rattle.mds_table.specs.declared.row.Row.{Row}
use Rattle.mds_table.specs.State.{code_of}
use Rattle.mds_table.specs.Row.{same_row, row_cmp}

-- row order is a total order
pub row_cmp_total : IsTotalOrder row_cmp
row_cmp_total =
    then_total (on_total (λ row. row.kind) nat_list_cmp_total) (then_total
    (on_total (λ row. code_of row.from) nat_cmp_total)
    (on_total (λ row. code_of row.to) nat_cmp_total))

-- to be the same row is an equivalence
pub same_row_equiv : IsEquivalence same_row
same_row_equiv =
    and_equiv (on_equiv (λ row. row.kind) nat_list_eq_equiv) (and_equiv
    (on_equiv (λ row. code_of row.from) nat_eq_equiv)
    (on_equiv (λ row. code_of row.to) nat_eq_equiv))

-- rows are the same where neither stands before the other
pub same_row_ties : (a b : Row) → same_row a b ≡ eq_by_cmp row_cmp a b
same_row_ties a b =
    both_tied _ _ (slice_cmp nat_cmp a.kind b.kind)
    (ordering_then (nat_cmp (code_of a.from) (code_of b.from))
    (nat_cmp (code_of a.to) (code_of b.to))) (texts_ties a.kind b.kind)
    (both_tied _ _ (nat_cmp (code_of a.from) (code_of b.from))
    (nat_cmp (code_of a.to) (code_of b.to)) (unsigned_ties (code_of a.from) (code_of b.from))
    (unsigned_ties (code_of a.to) (code_of b.to)))
