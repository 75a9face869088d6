use Rattle.std.proofs.Common.{sym, ap, ◌∙◌, length}
use Rattle.std.proofs.lemmas.List.{with_items_is}
use Rattle.mds_core.specs.Machine.{Machine}
use Rattle.mds_book.specs.Books.{Opened}
use Rattle.mds_book.specs.Seats.{Seated}
use Rattle.mds_book.proofs.Gathers.{settled_book, begun_book, counted_still}
use Rattle.mds_book.proofs.book.Book.gather.Goals as goal

-- the slots were lent to be counted, and came back as they were
pub invariant_of-first : goal.invariant_of-first
invariant_of-first g c = record { whole = c.of-first.result.whole ∙ ap (λ (m : Machine). m.history) (sym c.count_all.ensures.slots.0) }

pub invariant_of-second : goal.invariant_of-second
invariant_of-second g c = record { whole = c.of-second.result.whole ∙ ap (λ (m : Machine). m.history) (sym c.count_all.ensures.slots.1) }

-- and so were the seats, which were counted
pub invariant_of-gathered : goal.invariant_of-gathered
invariant_of-gathered g c =
    let counted = c.count_all.ensures in
    let retired = c.retire_all-accounts.ensures in
    let length_is = ap length counted.seats ∙ c.as_mut_slice.ensures.len in
    let given = retired.seats ∙ (with_items_is c.args.seats c.count_all.new.seats length_is ∙ counted.seats) in (
      c.self.invariant.0,
      c.self.invariant.1,
      counted_still _ _ _ _ (λ (seat : Seated). seat.first) (ap (λ (m : Machine). m.history) (retired.slots.0 ∙ counted.slots.0)) given counted.first_total,
      counted_still _ _ _ _ (λ (seat : Seated). seat.second) (ap (λ (m : Machine). m.history) (retired.slots.1 ∙ counted.slots.1)) given counted.second_total,
    )

pub returns : goal.returns
returns g c =
    let retired = c.retire_all-accounts.ensures in
    let first = c.retire_all-accounts.new.first in
    let second = c.retire_all-accounts.new.second in
    let length_is = ap length c.count_all.ensures.seats ∙ c.as_mut_slice.ensures.len in
    let given = with_items_is c.args.seats c.count_all.new.seats length_is ∙ (c.count_all.ensures.seats ∙ c.as_mut_slice.ensures.value) in
    let same = c.self.invariant in
    record {
      gathered = record {
        tables = ap (λ (b : Opened). b.tables) c.self.view_is;
        seats = retired.seats ∙ given;
        whole = c.tell.ensures;
      };
      settled = settled_book _ _ _ first.log second.log first.marks second.marks c.tell.ensures (sym same.0) (sym same.1) first.whole second.whole retired.first retired.second;
      beginnings = begun_book _ _ _ first.log second.log first.marks second.marks first.whole second.whole retired.first retired.second;
    }
