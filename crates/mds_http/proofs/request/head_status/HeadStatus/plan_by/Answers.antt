use Rattle.mds_http.proofs.HeadLemmas.{headless_plan}
use Rattle.mds_http.proofs.request.head_status.HeadStatus.plan_by.Goals as goal

pub returns-in-Partial-clause-plan : goal.returns-in-Partial-clause-plan
returns-in-Partial-clause-plan c = headless_plan c.args.stream.now c.args.self.now c.in-Partial.is c.requires.status
