use Rattle.std.proofs.lemmas.Result.{IfOk-weaker}
use Rattle.std.specs.Fmt.{digits}
use Rattle.mds_uses.proofs.metrics.ready.Goals as goal

pub returns : goal.returns
unfolding digits
returns c = IfOk-weaker c.ready_answer.result _ _ (λ answer is. is) c.ready_answer.ensures
