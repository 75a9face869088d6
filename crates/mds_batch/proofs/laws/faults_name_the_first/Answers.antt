use Rattle.mds_batch.proofs.ItemLaws.{faults_name_the_first}
use Rattle.mds_batch.proofs.laws.faults_name_the_first.Goals as goal

pub returns : goal.returns
returns c = faults_name_the_first
