use Rattle.std.proofs.Common.{sym, subst}
use Rattle.mds_core.specs.Answer.{Answers}
use Rattle.mds_core.specs.Machine.{Machine}
use Rattle.mds_core.proofs.Outcomes.{answer_one}
use Rattle.mds_uses.proofs.shard.ask_both.Goals as goal

pub returns-clause-replies : goal.returns-clause-replies
returns-clause-replies c =
    let P : Machine → Type 0 = λ machine. Answers machine.tables machine.history c.args.request.now c.in_ok-step.field-0 in
    answer_one c.args.shard.now.tables c.args.shard.now.history c.args.request.now c.in_ok-reply.reply c.in_ok-step.field-0
    c.in_ok-reply.ensures.step.answer (subst P (sym c.requires) c.in_ok-step.ensures.step.answer)
