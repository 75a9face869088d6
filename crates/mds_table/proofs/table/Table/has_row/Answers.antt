use Rattle.std.proofs.Common.{rules}
use Rattle.mds_table.proofs.table.Table.has_row.Goals as goal

pub returns : goal.returns
returns c = search rules
