use Rattle.std.proofs.Common.{refl, subst}
use Rattle.std.proofs.lemmas.Result.{IfOk-weaker}
use Rattle.mds_args.specs.Words.{IsTold}
use Rattle.mds_args.proofs.WordsLemmas.{adds_command}
use Rattle.mds_args.proofs.words.add_command.Goals as goal

pub returns-in-Ok : goal.returns-in-Ok
returns-in-Ok c = λ sub of_sub plain.
    let added = subst (IsTold sub) c.in-Ok.is of_sub in
    IfOk-weaker c.subcommand.result _ _ (λ more adds. adds_command _ _ _ _ sub adds refl added plain) c.subcommand.ensures
