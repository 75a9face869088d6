use Rattle.std.proofs.Common.{rules}
use Rattle.mds_core.proofs.position.Position.new.Goals as goal

pub returns-clause-exact : goal.returns-clause-exact
returns-clause-exact c = search rules
