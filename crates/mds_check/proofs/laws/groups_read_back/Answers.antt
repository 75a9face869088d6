use Rattle.mds_check.proofs.GroupLemmas.{groups_read_back}
use Rattle.mds_check.proofs.laws.groups_read_back.Goals as goal

pub returns : goal.returns
returns c = groups_read_back
