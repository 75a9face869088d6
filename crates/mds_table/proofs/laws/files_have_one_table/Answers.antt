use Rattle.mds_table.proofs.OneTable.{one_table}
use Rattle.mds_table.proofs.laws.files_have_one_table.Goals as goal

pub returns : goal.returns
returns c = one_table
