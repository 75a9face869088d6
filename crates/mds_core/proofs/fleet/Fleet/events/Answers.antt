use Rattle.std.proofs.Common.{rules}
use Rattle.mds_core.proofs.fleet.Fleet.events.Goals as goal

pub returns : goal.returns
returns c = search rules
