use Rattle.mds_http.proofs.PlanLaws.{complete_determines}
use Rattle.mds_http.proofs.laws.complete_determines.Goals as goal

pub returns : goal.returns
returns c = complete_determines
