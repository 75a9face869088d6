use Rattle.mds_check.proofs.GroupLemmas.{taken_none}
use Rattle.mds_check.proofs.group.GroupCheck.new.Goals as goal

pub returns-clause-taken : goal.returns-clause-taken
returns-clause-taken c = taken_none
