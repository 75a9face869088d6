use Rattle.std.proofs.Common.{◌≡◌, take}
use Rattle.mds_trace.specs.Items.{events_of, vehicles_of}
use Rattle.mds_trace.proofs.collect.vehicles_in.Given as goal

-- the vehicles that the items so far mention
abbrev pub invariant-loop-at : goal.invariant-loop-at
invariant-loop-at l = l.keys.keys ≡ vehicles_of (events_of (take l.at l.items))
