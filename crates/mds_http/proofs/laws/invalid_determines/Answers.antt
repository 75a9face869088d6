use Rattle.mds_http.proofs.PlanLaws.{invalid_determines}
use Rattle.mds_http.proofs.laws.invalid_determines.Goals as goal

pub returns : goal.returns
returns c = invalid_determines
