use Rattle.std.proofs.Common.{subst, sym, List, Some, arith}
use Rattle.mds_core.specs.Reported.{Reported}
use Rattle.mds_log.specs.Log.{requests}
use Rattle.mds_shard.specs.Walk.{IsWalkOf}
use Rattle.mds_shard.proofs.Walks.{walk_fits, walk_over}
use Rattle.mds_book.proofs.listing.finish.Goals as goal

pub loop-at-init : goal.loop-at-init
loop-at-init g c = record {
  walk = λ key begun.
      let Found : List Reported → Type 0 = λ w. IsWalkOf (requests c.args.seen.now) key (Some c.args.listing.last) w in
      subst Found (sym begun.none) begun.walk;
  room = omega arith;
}

-- it goes along the vehicle of which the list is, and there is room for a piece more than what was found
pub copy_piece-at-requires : goal.copy_piece-at-requires
copy_piece-at-requires g c =
    let found = g.E.TakesEvents.events c.loop-at.events in
    let walk = c.loop-at.invariant.walk c.requires.0 c.requires.1 in (
      omega arith,
      (
        (c.requires.0, rw c.in-Some.is at walk),
        omega (arith, c.loop-at.invariant.room, c.requires.1.room, walk_fits (requests c.args.seen.now) c.requires.0 c.loop-at.at found walk),
      ),
    )

pub loop-at-preserved : goal.loop-at-preserved
loop-at-preserved g c = record {
  walk = λ key begun. c.copy_piece-at.ensures.walk key (rw c.in-Some.is at (c.loop-at.invariant.walk key begun));
  room = omega (arith, c.loop-at.invariant.room, c.copy_piece-at.ensures.room);
}

pub returns : goal.returns
returns g c key begun =
    rw c.turn_round.ensures
    (walk_over (requests c.args.seen.now) key (g.E.TakesEvents.events c.loop-at.events) (rw c.in_default.is at (c.loop-at.invariant.walk key begun)))
