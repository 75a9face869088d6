use Rattle.std.proofs.Common.{subst}
use Rattle.std.proofs.lemmas.Result.{IfOk-weaker}
use Rattle.mds_args.specs.Words.{IsTold}
use Rattle.mds_args.proofs.WordsLemmas.{adds_rule}
use Rattle.mds_args.proofs.words.with_arg.Goals as goal

pub returns-in-Ok : goal.returns-in-Ok
returns-in-Ok c = λ app told.
    IfOk-weaker c.arg.result _ _ (λ more adds. adds_rule _ _ _ app adds c.requires (subst (IsTold app) c.in-Ok.is told)) c.arg.ensures
