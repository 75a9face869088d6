use Rattle.std.proofs.Common.{[], take, subst}
use Rattle.std.proofs.lemmas.List.{take_more, take_all}
use Rattle.mds_table.specs.Moves.{IsRowOfAny}
use Rattle.mds_table.specs.Entry.{Adds}
use Rattle.mds_table.proofs.Laid.{any_more, laid}
use Rattle.mds_table.proofs.moves.rows_of.Goals as goal

pub loop-of_kind-preserved : goal.loop-of_kind-preserved
loop-of_kind-preserved c =
    let i = c.loop-of_kind.of_kind-index in
    let m = c.of_kind-item.result in
    rw (take_more c.args.moves.now i m c.loop-of_kind-test.true, ← c.of_kind-item.is) (record {
      order = c.in_ok-add_rows_of.ensures.order;
      added = any_more (take i c.args.moves.now) m c.loop-of_kind.invariant.added c.in_ok-add_rows_of.ensures.rows;
    })

pub returns : goal.returns
returns c all order are =
    let whole = take_all c.loop-of_kind.of_kind-index c.args.moves.now c.loop-of_kind-test.false in
    laid c.loop-of_kind.rows.items all c.args.moves.now c.loop-of_kind.invariant.order
    (subst (λ moves. Adds [] c.loop-of_kind.rows.items (IsRowOfAny moves)) whole c.loop-of_kind.invariant.added) order are
