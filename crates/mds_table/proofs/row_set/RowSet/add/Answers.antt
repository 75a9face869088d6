use Rattle.mds_table.specs.declared.row_set.RowSet.{RowSet}
use Rattle.mds_table.specs.Entry.{HasRow}
use Rattle.mds_table.proofs.Adding.{added_as, among_all}
use Rattle.mds_table.proofs.Laid.{set_more, grows_by}
use Rattle.mds_table.proofs.row_set.RowSet.add.Goals as goal

pub returns : goal.returns
returns c rows row are has =
    let entry = c.args.entry.now in
    let old = c.args.self.now in
    let new : RowSet = record { moves = c.put_masks.new.moves; count = c.add_entry.new.self.count } in
    let next = c.add_entry.ensures rows (record { order = are.order; masks = c.masks_among.ensures rows (rw c.deref.ensures.value are.moves); count = are.count }) in
    let added = added_as next.2 (λ other is. is.1) (λ other is. (among_all other.from, is)) in
    let grows = grows_by rows next.0 entry.kind (HasRow entry) (λ other is. is.kind) added in (
      next.0,
      set_more rows next.0 old new entry.kind (HasRow entry) (row, has) (λ other is. is.kind) are next.1.order added next.1.count
          (c.in_ok-put_masks.ensures.moves rows next.0 are.moves grows next.1.masks) c.in_ok-put_masks.ensures.kinds,
      added,
    )
