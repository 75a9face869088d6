use Rattle.std.proofs.Common.{◌≢◌, ℕ, List, Option, inl, inr, refl}
use Rattle.std.proofs.KnownBytes.{Keeps-refl}
use Rattle.mds_io.specs.declared.page.PrintError.{PrintError}
use Rattle.mds_io.specs.declared.page.PrintError.TheVariants as write
use Rattle.mds_commands.specs.declared.commands.ReplayOptions.{ReplayOptions}
use Rattle.mds_commands.specs.declared.problem.Problem.{Problem}
use Rattle.mds_commands.specs.declared.problem.Problem.TheVariants.{CannotRead, NotATable, NotABatch, NotLines, Socket, Random, Output, Memory}
use Rattle.mds_commands.specs.Files.{Files, files_of}
use Rattle.mds_commands.specs.Problem.{written_problem}
use Rattle.mds_commands.specs.Command.{ExplainsReplay, PrintsFront, WentOut}
use Rattle.mds_commands.proofs.ErrorLemmas.{passed_on}
use Rattle.mds_commands.proofs.commands.replay_into.Goals as goal

-- a report that could not be written is explained, and a front of it went out
unwritten : {T R : Type 0} (options : ReplayOptions) (files : Files T R)
    (fault : PrintError) (old new : Option (List ℕ)) → PrintsFront options files old new
    → ExplainsReplay options files (written_problem fault) × WentOut options files (written_problem fault) old new
unwritten options files write.Memory old new front = (tt, inr front)
unwritten options files write.Device old new front = (tt, front)

-- before a report is printed nothing went out
unsaid : {T R : Type 0} (options : ReplayOptions) (files : Files T R)
    (problem : Problem) (old : Option (List ℕ)) → ExplainsReplay options files problem → problem ≢ Output
    → WentOut options files problem old old
unsaid options files (CannotRead path) old why other = Keeps-refl old
unsaid options files (NotATable fault) old why other = Keeps-refl old
unsaid options files (NotABatch fault) old why other = Keeps-refl old
unsaid options files (NotLines fault) old why other = Keeps-refl old
unsaid options files Socket old why other = absurd why
unsaid options files Random old why other = absurd why
unsaid options files Output old why other = absurd (other refl)
unsaid options files Memory old why other = inl (Keeps-refl old)

pub returns-in_err-report-clause-err : goal.returns-in_err-report-clause-err
returns-in_err-report-clause-err g c =
    let why = c.in_err-report.ensures.err in
    passed_on _ _ _ c.from_residual.ensures.1
    (why.0, unsaid c.args.options (files_of g.T.Read.remaining c.args.table g.R.Read.remaining c.args.file) c.in_err-report.field-0.0 (g.W.Write.contents c.args.out.now) why.0 why.1)

pub returns-in_err-print_report-clause-err : goal.returns-in_err-print_report-clause-err
returns-in_err-print_report-clause-err g c =
    passed_on _ _ _ c.from_residual-in_err-print_report.ensures.1
    (unwritten c.args.options (files_of g.T.Read.remaining c.args.table g.R.Read.remaining c.args.file) c.in_err-print_report.field-0.0
    (g.W.Write.contents c.args.out.now) (g.W.Write.contents c.print_report.new.writer)
    (c.in_ok-report.report, c.in_ok-report.ensures.ok, c.in_err-print_report.ensures.err))

pub returns-clause-ok : goal.returns-clause-ok
returns-clause-ok g c = (c.in_ok-report.report, c.in_ok-report.ensures.ok, c.in_ok-print_report.ensures.ok, refl)
