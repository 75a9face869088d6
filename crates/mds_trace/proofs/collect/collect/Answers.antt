use Rattle.mds_trace.specs.Items.{events_of, vehicles_of}
use Rattle.mds_trace.specs.Replay.{accepted_of, IsEnd}
use Rattle.mds_trace.specs.Parts.{IsEndIn}
use Rattle.mds_trace.proofs.Places.{all_follow}
use Rattle.mds_trace.proofs.Collected.{all_verdicts}
use Rattle.mds_trace.proofs.collect.collect.Goals as goal

pub returns : goal.returns
returns c = λ tables are.
    let opening = c.args.opening in
    let items = c.args.items.now in
    let parts = c.args.parts.now in
    let lines = c.in_ok-lines.lines.items in
    c.report_of.ensures.report opening tables items (all_verdicts opening tables items parts lines are c.in_ok-lines.ensures c.requires.some)
    (all_follow (IsEndIn opening parts) (IsEnd opening tables (accepted_of items lines)) (λ key end is. is tables items lines are c.in_ok-lines.ensures)
    (vehicles_of (events_of items)) c.in_ok-vehicles.vehicles.items c.in_ok-vehicles.ensures)
