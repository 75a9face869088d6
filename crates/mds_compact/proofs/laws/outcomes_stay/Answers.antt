use Rattle.mds_compact.proofs.Goes.{outcome_stays}
use Rattle.mds_compact.proofs.laws.outcomes_stay.Goals as goal

pub returns : goal.returns
returns c = outcome_stays
