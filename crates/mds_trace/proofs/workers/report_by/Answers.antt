use Rattle.std.proofs.Common.{◌≡◌, List, sym, subst}
use Rattle.std.proofs.lemmas.Result.{IfOk-weaker}
use Rattle.mds_trace.specs.declared.part.Part.{Part}
use Rattle.mds_trace.specs.declared.report.Opening.TheVariants.{Removed}
use Rattle.mds_trace.specs.Replay.{AreVerdicts, IsReport}
use Rattle.mds_trace.specs.ReplayLaws.{AreOutcomes}
use Rattle.mds_trace.specs.Parts.{AreParts}
use Rattle.mds_trace.proofs.Runs.{replayed_run}
use Rattle.mds_trace.proofs.workers.report_by.Goals as goal

pub returns-clause-report : goal.returns-clause-report
returns-clause-report g c =
    IfOk-weaker c.collect.result _ _
    (λ report is. is c.args.tables.now
    (subst (λ (parts : List Part). AreParts c.args.opening c.args.tables.now c.args.items.now parts) (sym c.deref.ensures.value) c.in_ok-parts.ensures.parts))
    c.collect.ensures

pub returns-clause-runs : goal.returns-clause-runs
returns-clause-runs g c =
    IfOk-weaker c.collect.result (IsReport c.args.opening c.args.tables.now c.args.items.now)
    (λ report. c.args.opening ≡ Removed → AreOutcomes c.args.tables.now c.args.items.now report.lines.items)
    (λ report is removed. replayed_run c.args.tables.now c.args.items.now report.lines.items
    (subst (λ opening. AreVerdicts opening c.args.tables.now c.args.items.now report.lines.items) removed is.lines))
    (returns-clause-report g c)
