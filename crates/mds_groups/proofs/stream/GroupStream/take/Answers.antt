use Rattle.std.proofs.lemmas.Result.{IfOk-weaker}
use Rattle.mds_groups.proofs.stream.GroupStream.take.Goals as goal

pub returns-in-First-clause-taken : goal.returns-in-First-clause-taken
returns-in-First-clause-taken c = IfOk-weaker c.take_first.result _ _ (λ next taken. taken c.args.number) c.take_first.ensures.taken

pub returns-in-FormCheck-clause-taken : goal.returns-in-FormCheck-clause-taken
returns-in-FormCheck-clause-taken c = IfOk-weaker c.take_form_check.result _ _ (λ next taken. taken c.args.number) c.take_form_check.ensures.taken
