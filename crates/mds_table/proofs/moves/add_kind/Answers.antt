use Rattle.std.proofs.Common.{sym, ◌∙◌, subst}
use Rattle.mds_table.specs.declared.moves.Moves.{Moves}
use Rattle.mds_table.specs.Mask.{AreMasks}
use Rattle.mds_table.proofs.Sought.{kind_passed, kind_added}
use Rattle.mds_table.proofs.moves.add_kind.Goals as goal

pub returns-in_ok-insert : goal.returns-in_ok-insert
returns-in_ok-insert c seen row is are =
    let rows = c.args.rows.now in
    let moves = c.args.moves.now.items in
    let m : Moves = record { kind = c.copy.result; masks = c.masks_of-masks.result } in
    let named = c.copy.ensures ∙ sym is in
    let masks = subst (λ kind. AreMasks rows kind m.masks) (sym c.copy.ensures) c.masks_of-masks.ensures in
    let gap = rw (← is, c.deref.ensures.value) at c.in-Err.ensures in
    rw c.in_ok-insert.ensures.items (kind_added rows seen moves row m c.in-Err.at named masks gap are)

pub returns-in_default : goal.returns-in_default
returns-in_default c seen row is are =
    let place = rw (← is, c.deref.ensures.value) at c.in_default.ensures in
    kind_passed c.args.rows.now seen c.args.moves.now.items row c.in_default.field-0 place are
