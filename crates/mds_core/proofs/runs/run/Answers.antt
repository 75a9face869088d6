use Rattle.std.proofs.Common.{◌≡◌, [], drop, refl, arith}
use Rattle.std.proofs.lemmas.List.{append-nil, drop_all}
use Rattle.mds_core.specs.Run.{IsRun}
use Rattle.mds_core.proofs.RunLaws.{accepts_exactly}
use Rattle.mds_core.proofs.runs.run.Goals as goal
use Rattle.mds_core.proofs.runs.run.Goals.{After-loop-request}

-- at the end nothing is left, and the replies so far are all
whole : (c : After-loop-request) → IsRun c.args.tables [] c.args.requests.now c.loop-request.replies.items c.loop-request.fleet.history
whole c =
    let nothing_left : drop c.loop-request.request-index c.args.requests.now ≡ [] =
    drop_all c.loop-request.request-index c.args.requests.now (omega arith) in
    rw append-nil at (c.loop-request.invariant.run [] c.loop-request.fleet.history (rw nothing_left refl))

pub returns-clause-run : goal.returns-clause-run
returns-clause-run c = whole c

pub returns-clause-accepted : goal.returns-clause-accepted
returns-clause-accepted c = accepts_exactly c.args.tables c.args.requests.now c.loop-request.replies.items c.loop-request.fleet.history (whole c)
