use Rattle.std.proofs.Common.{subst}
use Rattle.clap.specs.Words.{App, with_subcommand}
use Rattle.mds_args.specs.Words.{IsTold}
use Rattle.mds_args.proofs.words.with_command.Goals as goal

pub returns-in-Ok : goal.returns-in-Ok
returns-in-Ok c = λ app sub told of_sub plain.
    let old = subst (IsTold app) c.in-Ok.is told in
    subst (λ (a : App). IsTold (with_subcommand a sub.top) c.add_command.result) old (c.add_command.ensures sub of_sub plain)
