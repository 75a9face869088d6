use Rattle.std.proofs.Common.{rules}
use Rattle.mds_core.proofs.answers.answer.Goals as goal

pub returns : goal.returns
returns c = search rules
