use Rattle.std.proofs.Common.{take, refl}
use Rattle.std.proofs.lemmas.List.{take_more}
use Rattle.mds_table.proofs.moves.moves_of.Goals as goal

pub loop-row-preserved : goal.loop-row-preserved
loop-row-preserved c =
    let row = c.row-item.result in
    let i = c.loop-row.row-index in
    rw (take_more c.args.rows.now i row c.loop-row-test.true, ← c.row-item.is) (c.in_ok-add_kind.ensures (take i c.args.rows.now) row refl c.loop-row.invariant)
