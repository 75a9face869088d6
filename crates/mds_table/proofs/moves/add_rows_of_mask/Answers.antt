use Rattle.std.proofs.Common.{take, get_or, sym, ◌∙◌, ap, subst}
use Rattle.std.proofs.lemmas.List.{take_more, take_all}
use Rattle.mds_table.specs.declared.state.State.TheVariants.{Removed}
use Rattle.mds_table.specs.Row.{row_of}
use Rattle.mds_table.specs.Entry.{Adds}
use Rattle.mds_table.proofs.Laid.{IsRowOfMaskTo, to_more, to_passed}
use Rattle.mds_table.proofs.moves.add_rows_of_mask.Goals as goal
use Rattle.mds_table.proofs.moves.add_rows_of_mask.Goals.{then-has+in_ok-add_row, else-has}

pub loop-to-preserved : goal.loop-to-preserved
loop-to-preserved c =
    let kind = c.args.kind.now in
    let front = take c.loop-to.to-index c.args.states.now in
    let to = get_or c.args.states.now c.loop-to.to-index Removed in
    let more = take_more c.args.states.now c.loop-to.to-index Removed c.loop-to-test.true in
    elim c.if-has.branch [
      | then-has+in_ok-add_row w ↦ rw (more, w.rows-is) (record {
        order = w.in_ok-add_row.ensures.order;
        added = to_more c.args.from kind c.args.mask front to (row_of c.args.from w.copy.result to) (ap (λ name. row_of c.args.from name to) w.copy.ensures)
            (sym c.has.ensures ∙ w.if-has.true) c.loop-to.invariant.added w.in_ok-add_row.ensures.rows;
      })
      | else-has w ↦ rw (more, w.rows-is) (record {
        order = c.loop-to.invariant.order;
        added = to_passed c.args.from kind c.args.mask front to (sym c.has.ensures ∙ w.if-has.false) c.loop-to.invariant.added;
      })
    ]

pub returns-clause-rows : goal.returns-clause-rows
returns-clause-rows c =
    let all = take_all c.loop-to.to-index c.args.states.now c.loop-to-test.false in
    subst (λ states. Adds c.args.rows.now.items c.loop-to.rows.items (IsRowOfMaskTo c.args.from c.args.kind.now c.args.mask states)) all c.loop-to.invariant.added
