use Rattle.mds_trace.proofs.Asked.{asked}
use Rattle.mds_trace.proofs.laws.replays_have_requests.Goals as goal

pub returns : goal.returns
returns c items = asked items
