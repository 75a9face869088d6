use Rattle.mds_groups.proofs.BurstLemmas.{changed_groups_are_found}
use Rattle.mds_groups.proofs.laws.changed_groups_are_found.Goals as goal

pub returns : goal.returns
returns c = changed_groups_are_found
