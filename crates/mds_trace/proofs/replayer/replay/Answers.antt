use Rattle.std.proofs.Common.{List, ◌∙◌, subst, arith}
use Rattle.std.proofs.lemmas.List.{take_all}
use Rattle.std.proofs.lemmas.Result.{IfOk-weaker}
use Rattle.mds_batch.specs.declared.item.EventItem.{EventItem}
use Rattle.mds_trace.specs.ReplayLaws.{AreOutcomes}
use Rattle.mds_trace.specs.Replayer.{Took}
use Rattle.mds_trace.proofs.replayer.replay.Goals as goal

pub returns-clause-runs : goal.returns-clause-runs
returns-clause-runs c =
    let items = c.args.items.now in
    let so_far = c.loop-item.invariant in
    let took = subst (λ (some : List EventItem). Took some c.loop-item.replayer) (take_all c.loop-item.item-index items (omega arith)) so_far.took in
    IfOk-weaker c.finish.result _ _
    (λ report runs removed.
    subst (λ tables. AreOutcomes tables items report.lines.items) so_far.tables (runs items took (so_far.opening ∙ removed)))
    c.finish.ensures.runs
