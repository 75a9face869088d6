use Rattle.std.proofs.Common.{take, get_or, slice_index_or, refl}
use Rattle.std.proofs.lemmas.List.{take_more}
use Rattle.mds_table.specs.declared.state.State.TheVariants.{Removed}
use Rattle.mds_table.proofs.Laid.{from_more}
use Rattle.mds_table.proofs.moves.add_rows_of.Goals as goal

pub loop-from-preserved : goal.loop-from-preserved
loop-from-preserved c =
    let front = take c.loop-from.from-index c.args.states.now in
    let from = get_or c.args.states.now c.loop-from.from-index Removed in
    let more = take_more c.args.states.now c.loop-from.from-index Removed c.loop-from-test.true in
    rw more (record {
      order = c.in_ok-add_rows_of_mask.ensures.order;
      added = from_more c.args.moves.now front from (slice_index_or c.args.moves.now.masks c.from.result 0) (rw (c.from.ensures, c.code.ensures.code) refl)
          c.loop-from.invariant.added c.in_ok-add_rows_of_mask.ensures.rows;
    })
