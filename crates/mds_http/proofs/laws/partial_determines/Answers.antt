use Rattle.mds_http.proofs.PlanLaws.{partial_determines}
use Rattle.mds_http.proofs.laws.partial_determines.Goals as goal

pub returns : goal.returns
returns c = partial_determines
