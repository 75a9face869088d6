use Rattle.std.proofs.Common.{◌≡◌, List, map, sym, ◌∙◌, ap, subst}
use Rattle.std.specs.List.{AllZip}
use Rattle.mds_trace.specs.declared.report.VehicleEnd.{VehicleEnd}
use Rattle.mds_trace.specs.declared.report.Verdict.{Verdict}
use Rattle.mds_trace.specs.Items.{events_of, vehicles_of}
use Rattle.mds_trace.specs.Replay.{accepted_of, IsEnd, AreVerdicts}
use Rattle.mds_trace.specs.ReplayLaws.{AreOutcomes}
use Rattle.mds_trace.specs.Followed.{end_at}
use Rattle.mds_trace.specs.Replayer.{Replaying}
use Rattle.mds_trace.proofs.Ends.{ends_from}
use Rattle.mds_trace.proofs.Runs.{replayed_run}
use Rattle.mds_trace.proofs.one_by_one.Replayer.finish.Goals as goal

pub returns-clause-report : goal.returns-clause-report
returns-clause-report c = λ items took.
    let opening = c.args.self.opening in
    let tables = c.args.self.tables in
    let mentioned = vehicles_of (events_of items) in
    let lines_are : c.self.inside.lines.items ≡ c.args.self.lines = ap (λ (seen : Replaying). seen.lines) c.self.view_is in
    let vehicles_are : c.self.inside.vehicles.entries ≡ c.args.self.vehicles = ap (λ (seen : Replaying). seen.vehicles) c.self.view_is in
    let Are : List Verdict → List VehicleEnd → Type 0 = λ lines ends. AllZip (IsEnd opening tables (accepted_of items lines)) mentioned ends in
    let ends : Are c.args.self.lines c.in_ok-vehicles.vehicles.items =
    subst (Are c.args.self.lines) (sym (c.in_ok-vehicles.ensures ∙ ap (map end_at) vehicles_are)) (ends_from opening tables _ mentioned _ took.vehicles.vehicles) in
    c.report_of.ensures.report opening tables items
    (subst (λ lines. AreVerdicts opening tables items lines) (sym lines_are) took.verdicts)
    (subst (λ lines. Are lines c.in_ok-vehicles.vehicles.items) (sym lines_are) ends)

pub returns-clause-runs : goal.returns-clause-runs
returns-clause-runs c = λ items took removed.
    let tables = c.args.self.tables in
    let lines_are : c.self.inside.lines.items ≡ c.args.self.lines = ap (λ (seen : Replaying). seen.lines) c.self.view_is in
    let Are : List Verdict → Type 0 = λ lines. AreOutcomes tables items lines in
    subst Are (sym (ap (λ (lines : _). lines.items) c.report_of.ensures.lines ∙ lines_are))
    (replayed_run tables items c.args.self.lines (subst (λ opening. AreVerdicts opening tables items c.args.self.lines) removed took.verdicts))
