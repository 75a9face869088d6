use Rattle.std.proofs.Common.{◌≡◌, ◌+◌, ◌≤◌, ◌<◌, length, false, slice_index_or, slice_set, bit_or, refl, sym, ◌∙◌, subst, rules}
use Rattle.mds_table.specs.declared.state.TheConstants.State.{COUNT}
use Rattle.mds_table.specs.declared.row_set.Tally.{Tally}
use Rattle.mds_table.specs.Mask.{has_bit, mask_from}
use Rattle.mds_table.specs.TableFile.{max_rows}
use Rattle.mds_table.proofs.Growing.{row_grown, counted, uncounted}
use Rattle.mds_table.proofs.row_set.Tally.add_row.Goals as goal

pub returns-then-self-le-MAX_ROWS : goal.returns-then-self-le-MAX_ROWS
returns-then-self-le-MAX_ROWS c kind =
    let old = c.args.self.now in
    let new : Tally = record {
      masks = slice_set old.masks c.from-at.result (bit_or (slice_index_or old.masks c.from-at.result 0) c.bit_of.result);
      count = old.count + 1;
    } in
    let full : length old.masks ≡ COUNT = search rules in
    let few : old.count ≤ max_rows = search rules in
    let no : has_bit (slice_index_or old.masks c.from-at.result 0) c.args.to ≡ false = sym c.has.ensures ∙ c.if-has.false in
    let lacks : has_bit (mask_from old.masks c.args.from) c.args.to ≡ false =
    subst (λ at. has_bit (slice_index_or old.masks at 0) c.args.to ≡ false) (c.from-at.ensures ∙ c.code.ensures.code) no in
    row_grown kind c.args.from c.args.to old new full lacks (rw (c.from-at.ensures, c.code.ensures.code, c.bit_of.ensures) refl)
    (λ rows more longer is. counted rows more old.count longer is few)

pub returns-else-self-le-MAX_ROWS : goal.returns-else-self-le-MAX_ROWS
returns-else-self-le-MAX_ROWS c kind =
    let old = c.args.self.now in
    let new : Tally = record {
      masks = slice_set old.masks c.from-at.result (bit_or (slice_index_or old.masks c.from-at.result 0) c.bit_of.result);
      count = old.count;
    } in
    let full : length old.masks ≡ COUNT = search rules in
    let many : max_rows < old.count = search rules in
    let no : has_bit (slice_index_or old.masks c.from-at.result 0) c.args.to ≡ false = sym c.has.ensures ∙ c.if-has.false in
    let lacks : has_bit (mask_from old.masks c.args.from) c.args.to ≡ false =
    subst (λ at. has_bit (slice_index_or old.masks at 0) c.args.to ≡ false) (c.from-at.ensures ∙ c.code.ensures.code) no in
    row_grown kind c.args.from c.args.to old new full lacks (rw (c.from-at.ensures, c.code.ensures.code, c.bit_of.ensures) refl)
    (λ rows more longer is. uncounted rows more old.count longer is many)
