use Rattle.std.proofs.Common.{rules}
use Rattle.mds_core.proofs.decision.decide_event.Goals as goal

pub returns-clause-decided : goal.returns-clause-decided
returns-clause-decided c = search rules

pub returns-then-time-last-clause-decided : goal.returns-then-time-last-clause-decided
returns-then-time-last-clause-decided c = search rules
