use Rattle.std.proofs.Common.{take}
use Rattle.mds_core.specs.History.{key_of, requests_of}
use Rattle.mds_core.specs.Known.{AreKnown}
use Rattle.mds_core.proofs.lookup.known_in.Given as goal

-- what is known so far is what the history so far says of the vehicle
abbrev pub invariant-loop-request : goal.invariant-loop-request
invariant-loop-request l = AreKnown (requests_of (take l.request-index l.history) (key_of l.asked)) l.asked l.known
