use Rattle.mds_table.proofs.OneTimed.{one_tables_fault}
use Rattle.mds_table.proofs.laws.files_have_one_tables_fault.Goals as goal

pub returns : goal.returns
returns c = one_tables_fault
