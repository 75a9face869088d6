use Rattle.std.proofs.Common.{rules}
use Rattle.mds_core.proofs.event.Event.assign.Goals as goal

pub returns-clause-event : goal.returns-clause-event
returns-clause-event c = search rules
