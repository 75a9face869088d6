use Rattle.mds_http.proofs.VerdictLaws.{replies_are_enough}
use Rattle.mds_http.proofs.laws.replies_are_enough.Goals as goal

pub returns : goal.returns
returns c = replies_are_enough
