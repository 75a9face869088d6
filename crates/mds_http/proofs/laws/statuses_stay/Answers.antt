use Rattle.mds_http.proofs.PlanLaws.{statuses_stay}
use Rattle.mds_http.proofs.laws.statuses_stay.Goals as goal

pub returns : goal.returns
returns c = statuses_stay
