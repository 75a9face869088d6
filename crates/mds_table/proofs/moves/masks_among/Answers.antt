use Rattle.mds_table.specs.Row.{row_of}
use Rattle.mds_table.proofs.Bits.{has_bit-zeros}
use Rattle.mds_table.proofs.moves.masks_among.Goals as goal

pub returns-in-Err : goal.returns-in-Err
returns-in-Err c rows are from to =
    (λ has. let none = has_bit-zeros from to in cc, λ there. absurd (c.in-Err.ensures.none (are.kinds (row_of from c.args.kind.now to) there)))
