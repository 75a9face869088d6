use Rattle.mds_core.proofs.Histories.{requests_of-next_other}
use Rattle.mds_core.proofs.laws.other_vehicles_are_kept.Goals as goal

pub returns : goal.returns
returns c history request reply key other = requests_of-next_other history request reply.outcome key other
