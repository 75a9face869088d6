use Rattle.mds_http.proofs.PlanLaws.{plans_are_one}
use Rattle.mds_http.proofs.laws.plans_are_one.Goals as goal

pub returns : goal.returns
returns c = plans_are_one
