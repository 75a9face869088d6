use Rattle.mds_table.proofs.OneAnswer.{no_fault}
use Rattle.mds_table.proofs.laws.table_files_have_no_fault.Goals as goal

pub returns : goal.returns
returns c = no_fault
