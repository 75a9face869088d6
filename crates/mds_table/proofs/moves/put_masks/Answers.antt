use Rattle.mds_table.specs.declared.moves.Moves.{Moves}
use Rattle.mds_table.proofs.Put.{put_there, put_in, kinds_in}
use Rattle.mds_table.proofs.moves.put_masks.Goals as goal

pub returns-in-Ok-clause-moves : goal.returns-in-Ok-clause-moves
returns-in-Ok-clause-moves c rows more are grows masks =
    let m : Moves = record { kind = c.copy.result; masks = c.args.masks } in
    let place = rw c.deref.ensures.value at c.in-Ok.ensures in
    put_there rows more c.args.moves.now.items m c.args.kind.now c.in-Ok.at c.copy.ensures place are grows masks

pub returns-in_ok-insert-in-Err-clause-moves : goal.returns-in_ok-insert-in-Err-clause-moves
returns-in_ok-insert-in-Err-clause-moves c rows more are grows masks =
    let m : Moves = record { kind = c.copy.result; masks = c.args.masks } in
    let gap = rw c.deref.ensures.value at c.in-Err.ensures in
    rw c.in_ok-insert-in-Err.ensures.items (put_in rows more c.args.moves.now.items m c.args.kind.now c.in-Err.at c.copy.ensures gap are grows masks)

pub returns-in_ok-insert-in-Err-clause-kinds : goal.returns-in_ok-insert-in-Err-clause-kinds
returns-in_ok-insert-in-Err-clause-kinds c x there =
    let m : Moves = record { kind = c.copy.result; masks = c.args.masks } in
    kinds_in c.args.moves.now.items m c.args.kind.now c.in-Err.at c.copy.ensures x (rw c.in_ok-insert-in-Err.ensures.items at there)
