use Rattle.mds_check.proofs.LawLemmas.{groups_written}
use Rattle.mds_check.proofs.laws.written_groups_are_read.Goals as goal

pub returns : goal.returns
returns c = groups_written
