use Rattle.mds_http.proofs.PlanLaws.{rejected_determines}
use Rattle.mds_http.proofs.laws.rejected_determines.Goals as goal

pub returns : goal.returns
returns c = rejected_determines
