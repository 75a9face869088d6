use Rattle.std.proofs.Common.{rules}
use Rattle.mds_table.proofs.state.State.name.Goals as goal

pub returns-in-Elsewhere : goal.returns-in-Elsewhere
returns-in-Elsewhere c = search rules
