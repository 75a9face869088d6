use Rattle.std.proofs.Common.{rules}
use Rattle.mds_core.proofs.event.check.Goals as goal

pub returns-clause-exact : goal.returns-clause-exact
returns-clause-exact c = search rules

pub returns-then-time-gt-MAX_TIME-clause-fault : goal.returns-then-time-gt-MAX_TIME-clause-fault
returns-then-time-gt-MAX_TIME-clause-fault c = search rules
