use Rattle.std.proofs.Common.{ℕ, List, refl}
use Rattle.mds_commands.specs.Source.{IsLineProblem}
use Rattle.mds_commands.specs.Stream.{IsFed}
use Rattle.mds_commands.proofs.ErrorLemmas.{passed_on}
use Rattle.mds_commands.proofs.FedLemmas.{reported, faulty}
use Rattle.mds_commands.proofs.stream.report_of.Goals as goal

pub returns-in_err-finish-clause-fault : goal.returns-in_err-finish-clause-fault
returns-in_err-finish-clause-fault c =
    let fault = c.in_err-finish.field-0.0 in
    let stream = c.args.replay.stream in
    passed_on _ _ (λ problem. (bytes : List ℕ) → IsFed bytes stream → IsLineProblem bytes problem) c.from_residual.ensures.1
    (λ bytes fed. (fault, faulty bytes stream fault fed c.in_err-finish.ensures.fault c.in_err-finish.ensures.again, refl))

pub returns-clause-report : goal.returns-clause-report
returns-clause-report c = λ bytes fed. reported bytes c.args.replay.stream c.args.replay.opening c.args.replay.tables c.in_ok-finish.field-0 fed c.in_ok-finish.ensures.whole c.in_ok-finish.ensures.report
