use Rattle.mds_trace.proofs.Accepted.{accepted_events_open as law}
use Rattle.mds_trace.proofs.laws.accepted_events_open.Goals as goal

pub returns : goal.returns
returns c = law
