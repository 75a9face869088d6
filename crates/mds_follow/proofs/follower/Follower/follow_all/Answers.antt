use Rattle.std.proofs.Common.{List, subst, arith, take_all}
use Rattle.std.specs.List.{All}
use Rattle.mds_log.specs.Log.{requests}
use Rattle.mds_book.specs.Seats.{Seated}
use Rattle.mds_follow.specs.Parts.{Covers}
use Rattle.mds_follow.proofs.Covering.{covered_next}
use Rattle.mds_log.proofs.Lists.{prefix_trans}
use Rattle.mds_follow.proofs.follower.Follower.follow_all.Goals as goal

-- what the next seat has seen is recorded too
pub loop-seat-preserved : goal.loop-seat-preserved
loop-seat-preserved g c =
    let now = c.follow.new.self in
    record {
      begins = prefix_trans c.args.self.now c.loop-seat.self now c.loop-seat.invariant.begins c.follow.ensures.begins;
      covers = covered_next c.args.seats.now c.loop-seat.seat-index c.seat-item.result c.loop-seat.self now c.loop-seat-test.true c.seat-item.is
          c.follow.ensures.begins c.loop-seat.invariant.covers c.in_ok-follow.ensures.covers;
    }

-- at the end these are all seats
pub returns-clause-covers : goal.returns-clause-covers
returns-clause-covers g c =
    subst (λ (seats : List Seated). All (λ seat. Covers seat (requests c.loop-seat.self)) seats)
    (take_all c.loop-seat.seat-index c.args.seats.now (omega (arith, c.loop-seat-test.false))) c.loop-seat.invariant.covers
