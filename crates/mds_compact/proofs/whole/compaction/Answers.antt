use Rattle.std.proofs.lemmas.Result.{IfOk-weaker}
use Rattle.mds_compact.proofs.whole.compaction.Goals as goal

pub returns-clause-compaction : goal.returns-clause-compaction
returns-clause-compaction c = IfOk-weaker c.marks_of.result _ _ (λ marks is. is c.args.from (c.in_ok-thinning.ensures c.in_ok-survey.ensures)) c.marks_of.ensures.compaction

pub returns-clause-thin : goal.returns-clause-thin
returns-clause-thin c = IfOk-weaker c.marks_of.result _ _ (λ marks is tables lawful. is c.args.from tables (c.in_ok-thinning.ensures c.in_ok-survey.ensures) lawful) c.marks_of.ensures.thin
