use Rattle.std.proofs.Common.{rules}
use Rattle.mds_table.proofs.profile.rows.Goals as goal

pub returns : goal.returns
returns c = search rules
