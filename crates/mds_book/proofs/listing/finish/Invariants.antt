use Rattle.std.proofs.Common.{◌≤◌, ◌+◌, length}
use Rattle.mds_core.specs.declared.key.Key.{Key}
use Rattle.mds_log.specs.Log.{requests}
use Rattle.mds_shard.specs.Walk.{IsWalkOf, steps_left}
use Rattle.mds_book.specs.Listing.{IsBegun}
use Rattle.mds_book.proofs.listing.finish.Given as goal

-- the walk goes on, and there is room for what it finds
abbrev pub invariant-loop-at : goal.invariant-loop-at
invariant-loop-at g l = record {
  walk : (key : Key) → IsBegun g.E.TakesEvents.events g.E.TakesEvents.room (requests l.seen) key l.fn.listing
      → IsWalkOf (requests l.seen) key l.at (g.E.TakesEvents.events l.events);
  room : g.E.TakesEvents.room l.fn.listing.events ≤ g.E.TakesEvents.room l.events + length (g.E.TakesEvents.events l.events);
}

abbrev pub decreases-loop-at : goal.decreases-loop-at
decreases-loop-at g l = steps_left l.at
