use Rattle.mds_table.proofs.OneTimed.{no_tables_fault}
use Rattle.mds_table.proofs.laws.files_of_tables_have_no_fault.Goals as goal

pub returns : goal.returns
returns c = no_tables_fault
