use Rattle.mds_table.proofs.table.Table.masks.Goals as goal

pub returns : goal.returns
returns c =
    rw (← c.self.view_is) (c.masks_among.ensures c.self.inside.rows.items (rw c.deref.ensures.value c.self.invariant.1))
