use Rattle.mds_table.proofs.OneAnswer.{one_fault}
use Rattle.mds_table.proofs.laws.files_have_one_fault.Goals as goal

pub returns : goal.returns
returns c = one_fault
