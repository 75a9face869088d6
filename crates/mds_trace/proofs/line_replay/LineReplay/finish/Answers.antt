use Rattle.std.proofs.Common.{◌≡◌, None, refl, ap, subst, ◌∙◌}
use Rattle.mds_lines.specs.Stream.{HasLineFault}
use Rattle.mds_lines.proofs.ErrorLemmas.{passed_on}
use Rattle.mds_trace.specs.Feeding.{Feeding}
use Rattle.mds_trace.specs.LinesTaken.{AreReplayed}
use Rattle.mds_trace.proofs.FeedingLemmas.{line_report_of}
use Rattle.mds_trace.proofs.line_replay.LineReplay.finish.Goals as goal

pub returns-in_err-finish-clause-fault : goal.returns-in_err-finish-clause-fault
returns-in_err-finish-clause-fault c =
    let fault = c.in_err-finish.field-0.0 in
    let same : c.self.inside.lines.bytes ≡ c.args.self.stream.bytes = ap (λ (seen : Feeding). seen.stream.bytes) c.self.view_is in
    passed_on _ _ (HasLineFault c.args.self.stream.bytes) c.from_residual.ensures.1 (subst (λ bytes. HasLineFault bytes fault) same c.in_err-finish.ensures.fault)

pub returns-in-Ok-clause-report : goal.returns-in-Ok-clause-report
returns-in-Ok-clause-report c =
    let inside = c.self.inside in
    let held : AreReplayed None inside.lines.bytes inside.replayer =
    subst (λ fault. AreReplayed fault inside.lines.bytes inside.replayer) c.in_ok-finish.ensures.whole c.self.invariant in
    let next = c.in_ok-finish.ensures.taken inside.replayer held.0 held.1 (refl, refl, held.2) in
    let tables = next.1.0 ∙ ap (λ (seen : Feeding). seen.tables) c.self.view_is in
    let opening = next.1.1 ∙ ap (λ (seen : Feeding). seen.opening) c.self.view_is in
    let bytes = ap (λ (seen : Feeding). seen.stream.bytes) c.self.view_is in
    line_report_of c.args.self c.finish.new.taker inside.lines.bytes next.0 c.in-Ok.report tables opening bytes next.2
    (c.in-Ok.ensures.report next.0 next.1.2) (c.in-Ok.ensures.runs next.0 next.1.2)
