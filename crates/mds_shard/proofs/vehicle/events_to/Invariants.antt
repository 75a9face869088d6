use Rattle.mds_shard.specs.Walk.{IsWalk, steps_left}
use Rattle.mds_shard.proofs.vehicle.events_to.Given as goal

-- what is found, with what is left to walk, is what the vehicle has
abbrev pub invariant-loop-at : goal.invariant-loop-at
invariant-loop-at g l = IsWalk l.past.requests l.last l.at l.events.items

abbrev pub decreases-loop-at : goal.decreases-loop-at
decreases-loop-at g l = steps_left l.at
