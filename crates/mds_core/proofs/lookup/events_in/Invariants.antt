use Rattle.std.proofs.Common.{◌≡◌, ◌++◌, ◌||◌, length, drop, nat_lt}
use Rattle.mds_core.specs.History.{requests_of, reports}
use Rattle.mds_core.proofs.lookup.events_in.Given as goal

-- what is found so far, with what is left, is what the whole history says of the vehicle
abbrev pub invariant-loop-request : goal.invariant-loop-request
invariant-loop-request l =
    let left = requests_of (drop l.request-index l.history) l.key in
    let all = requests_of l.history l.key in
    record {
      registered : (l.registered || nat_lt 0 (length left)) ≡ nat_lt 0 (length all);
      events : l.events.items ++ reports left ≡ reports all;
    }
