use Rattle.std.proofs.Common.{◌≡◌, ◌∙◌, ℕ, List, Option, ap, refl, subst, sym}
use Rattle.std.proofs.lemmas.Result.{IfErr-weaker, IfOk-weaker}
use Rattle.mds_table.specs.Tables.{Tables}
use Rattle.mds_lines.specs.Stream.{HasLineFault}
use Rattle.mds_lines.specs.declared.line_fault.LineFault.{LineFault}
use Rattle.mds_lines.specs.declared.line_fault.LineFault.TheVariants.{Memory}
use Rattle.mds_trace.specs.declared.report.Opening.{Opening}
use Rattle.mds_trace.specs.Feeding.{Feeding}
use Rattle.mds_trace.specs.LineReport.{IsLineReport}
use Rattle.mds_commands.specs.declared.problem.Problem.{Problem}
use Rattle.mds_commands.specs.declared.source.Form.TheVariants.{Lines}
use Rattle.mds_commands.specs.declared.source.Source.{Source}
use Rattle.mds_commands.specs.Problem.{line_problem}
use Rattle.mds_io.specs.Read.{HasFront}
use Rattle.mds_commands.specs.Source.{ExplainsFile, HasBytes, IsLineProblem, max_read}
use Rattle.mds_commands.specs.Stream.{HasLineReport, IsFed}
use Rattle.mds_commands.proofs.stream.report_of_lines.Goals as goal

-- a fault of the file's lines explains the problem that is made of it
explained : {R : Type 0} (remaining : R → Option (List ℕ)) (source : Source R) (bytes : List ℕ) (fault : LineFault) → HasBytes remaining source bytes
    → HasLineFault bytes fault → ExplainsFile Lines remaining source (line_problem fault)
explained remaining source bytes Memory has wrong = (has.0, has.1)
explained remaining source bytes fault has wrong = (refl, (λ same. cc), bytes, has, wrong)

-- and so does the problem that its lines are
of_lines : {R : Type 0} (remaining : R → Option (List ℕ)) (source : Source R) (bytes : List ℕ) (problem : Problem) → HasBytes remaining source bytes
    → IsLineProblem bytes problem → ExplainsFile Lines remaining source problem
of_lines remaining source bytes problem has is =
    subst (ExplainsFile Lines remaining source) (sym is.2) (explained remaining source bytes is.0 has is.1)

pub returns-in-Ok-clause-ok : goal.returns-in-Ok-clause-ok
returns-in-Ok-clause-ok g c =
    let fed = c.in-Ok.ensures.fed in
    let replay = c.feed_all.new.replay in
    let tables : replay.tables ≡ c.args.tables = c.in-Ok.ensures.tables ∙ ap (λ (seen : Feeding). seen.tables) c.open-replay.ensures in
    let opening : replay.opening ≡ c.args.opening = c.in-Ok.ensures.opening ∙ ap (λ (seen : Feeding). seen.opening) c.open-replay.ensures in
    IfOk-weaker c.report_of.result (λ report. (bytes : List ℕ) → IsFed bytes replay.stream → IsLineReport replay.opening replay.tables bytes report)
    (HasLineReport c.args.opening c.args.tables g.R.Read.remaining c.args.file)
    (λ report is. (
      fed.0,
      (c.in-Some.reader, c.in-Some.is, subst (λ reader. HasFront max_read (g.R.Read.remaining reader) fed.0) c.in-Some.reader-is fed.1),
      subst (λ (t : Tables). IsLineReport c.args.opening t fed.0 report) tables (subst (λ (o : Opening). IsLineReport o replay.tables fed.0 report) opening (is fed.0 fed.2)),
    ))
    c.report_of.ensures.report

pub returns-in-Ok-clause-err : goal.returns-in-Ok-clause-err
returns-in-Ok-clause-err g c =
    let fed = c.in-Ok.ensures.fed in
    IfErr-weaker c.report_of.result (λ problem. (bytes : List ℕ) → IsFed bytes c.feed_all.new.replay.stream → IsLineProblem bytes problem)
    (ExplainsFile Lines g.R.Read.remaining c.args.file)
    (λ problem is. of_lines g.R.Read.remaining c.args.file fed.0 problem (c.in-Some.reader, c.in-Some.is, subst (λ reader. HasFront max_read (g.R.Read.remaining reader) fed.0) c.in-Some.reader-is fed.1) (is fed.0 fed.2))
    c.report_of.ensures.fault
