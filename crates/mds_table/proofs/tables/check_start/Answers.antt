use Rattle.std.proofs.Common.{rules}
use Rattle.mds_table.proofs.tables.check_start.Goals as goal

pub returns-else-start-last : goal.returns-else-start-last
returns-else-start-last c = search rules
