use Rattle.mds_table.proofs.OneTimed.{one_tables}
use Rattle.mds_table.proofs.laws.files_have_one_list_of_tables.Goals as goal

pub returns : goal.returns
returns c = one_tables
