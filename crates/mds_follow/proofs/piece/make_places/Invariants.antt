use Rattle.std.proofs.Common.{◌-◌, ◌≤◌, length}
use Rattle.mds_follow.proofs.piece.make_places.Given as goal

-- there are no more places than are wanted
abbrev pub invariant-places : goal.invariant-places
invariant-places l = length l.requests.items ≤ l.count

abbrev pub decreases-places : goal.decreases-places
decreases-places l = l.count - length l.requests.items
