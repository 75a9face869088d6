use Rattle.mds_table.proofs.InForce.{latest_in_force}
use Rattle.mds_table.proofs.laws.latest_is_in_force.Goals as goal

pub returns : goal.returns
returns c = latest_in_force
