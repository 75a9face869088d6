-- Calls of a fleet.
use Rattle.std.proofs.Common.{List, [], ◌∷◌, length, take, ap}
use Rattle.mds_core.specs.declared.request.Request.{Request}
use Rattle.mds_core.specs.declared.reply.Reply.{Reply}
use Rattle.mds_core.specs.Machine.{Machine}
use Rattle.mds_core.specs.Run.{IsRun}
use Rattle.mds_face.specs.Desk.{AreCalls, FleetCalls}

pub fleet_runs : (old new : Machine) (requests : List Request) (replies : List Reply) → AreCalls FleetCalls old requests replies new
    → IsRun old.tables old.history (take (length replies) requests) replies new.history
fleet_runs old new [] [] calls = ap (λ fleet. fleet.history) calls
fleet_runs old new [] (reply ∷ replies) calls = absurd calls
fleet_runs old new (request ∷ requests) [] calls = ap (λ fleet. fleet.history) calls.unchanged
fleet_runs old new (request ∷ requests) (reply ∷ replies) (middle, called, calls) =
    (called.answer, rw (called.tables, called.history) at (fleet_runs middle new requests replies calls))
