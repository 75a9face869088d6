use Rattle.std.proofs.Common.{◌≡◌, [], length, refl, ap, ◌∙◌, arith}
use Rattle.mds_book.proofs.Accounts.{retired_next, retired_yet, none_left, one_moved, all_moved}
use Rattle.mds_book.proofs.settling.retire_all.Goals as goal

pub loop-seat-init : goal.loop-seat-init
loop-seat-init g c =
    let gives = c.into_iter-seat-iterator.ensures.into_iter_gives in
    let none : c.args.room.items ≡ [] = none_left _ (omega (arith, c.args.room.ok.0, c.requires.room.0)) in
    record {
      slots = (refl, refl);
      logs = (refl, refl);
      items = rw none gives.0;
      left = omega (arith, ap length gives.0, gives.1, c.args.seats.ok.0);
      fits = omega (arith, gives.1, c.requires.room.0, c.requires.room.1);
      first_retired = retired_yet _ 0 _ _ _ none;
      second_retired = retired_yet _ 1 _ _ _ none;
    }

pub loop-seat-preserved : goal.loop-seat-preserved
loop-seat-preserved g c =
    let before = c.loop-seat.invariant in
    let taken = c.retire-account.ensures in
    let steps = c.in-Some.ensures.steps in
    let put = c.put.ensures in
    record {
      slots = (taken.slots.0 ∙ before.slots.0, taken.slots.1 ∙ before.slots.1);
      logs = (taken.logs.0 ∙ before.logs.0, taken.logs.1 ∙ before.logs.1);
      items = one_moved _ _ _ _ _ _ _ put.items taken.account steps.0 before.items;
      left = omega (arith, ap length steps.0, steps.1, before.left);
      fits = omega (arith, put.len, put.capacity, before.fits, steps.1);
      first_retired = retired_next _ 0 _ _ _ _ _ _ _ before.first_retired taken.first taken.logs.0 put.items;
      second_retired = retired_next _ 1 _ _ _ _ _ _ _ before.second_retired taken.second taken.logs.1 put.items;
    }

pub returns : goal.returns
returns g c =
    let before = c.loop-seat.invariant in
    let none : c.loop-seat.seat-iterator.rest.items ≡ [] = none_left _ (before.left ∙ c.in-None.ensures.steps.0) in
    record {
      slots = before.slots;
      logs = before.logs;
      seats = all_moved _ _ _ none before.items;
      first = before.first_retired;
      second = before.second_retired;
    }
