use Rattle.std.proofs.Common.{◌<◌, length, Some, ap}
use Rattle.std.below.core.specs.declared.int.usize.TheConstants.{MAX}
use Rattle.mds_core.specs.History.{reports}
use Rattle.mds_trace.specs.Replay.{as_requests}
use Rattle.mds_trace.proofs.Following.{known_is, known_verdict, known_after, reports-as_requests}
use Rattle.mds_trace.proofs.followed.Followed.judge.Goals as goal

pub returns-in-Ok-clause-verdict : goal.returns-in-Ok-clause-verdict
returns-in-Ok-clause-verdict c = λ opening prior is repeated.
    let tables = c.args.tables.now in
    let event = c.args.event.now in
    let held = known_is tables event c.args.self c.in-Some.standing opening prior is c.in-Some.is in
    known_verdict tables event c.args.self c.in-Some.standing opening prior _ is c.in-Some.is
    (c.state.ensures, c.in-Ok.ensures.decided (as_requests event.key prior) (record { standing = ap Some held; has_event = repeated }))

pub returns-in-Ok-clause-followed : goal.returns-in-Ok-clause-followed
returns-in-Ok-clause-followed c = λ opening prior is few.
    let tables = c.args.tables.now in
    let event = c.args.event.now in
    let held = known_is tables event c.args.self c.in-Some.standing opening prior is c.in-Some.is in
    let within : length (reports (as_requests event.key prior)) < MAX = rw (reports-as_requests event.key prior) few in
    known_after tables event c.args.self c.in-Some.standing opening prior c.after.result is c.in-Some.is
    (c.after.ensures.list (as_requests event.key prior) held within)

pub returns-in-Err-clause-verdict : goal.returns-in-Err-clause-verdict
returns-in-Err-clause-verdict c = λ opening prior is repeated.
    let tables = c.args.tables.now in
    let event = c.args.event.now in
    let held = known_is tables event c.args.self c.in-Some.standing opening prior is c.in-Some.is in
    known_verdict tables event c.args.self c.in-Some.standing opening prior _ is c.in-Some.is
    (c.in-Err.ensures.decided (as_requests event.key prior) (record { standing = ap Some held; has_event = repeated }))
