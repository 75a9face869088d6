use Rattle.std.proofs.Common.{◌<◌, ◌++◌, ◌∷◌, [], length, sym, subst, arith}
use Rattle.std.below.core.specs.declared.int.usize.TheConstants.{MAX}
use Rattle.std.proofs.lemmas.Result.{IfOk-weaker}
use Rattle.mds_batch.specs.declared.item.EventItem.{EventItem}
use Rattle.mds_trace.specs.declared.report.Verdict.TheVariants.{Fault}
use Rattle.mds_trace.specs.Items.{events_of, vehicles_of}
use Rattle.mds_trace.specs.Replay.{accepted_of}
use Rattle.mds_trace.specs.Followed.{IsReplayed}
use Rattle.mds_trace.proofs.Verdicts.{accepted_few}
use Rattle.mds_trace.proofs.Replaying.{event_replayed, fault_replayed}
use Rattle.mds_trace.proofs.judge.judge_item.Goals as goal

pub returns-in-Event-clause-judged : goal.returns-in-Event-clause-judged
returns-in-Event-clause-judged c = IfOk-weaker c.judge_event.result _ _
    (λ line judged items lines so_far few.
    let within : length (accepted_of items lines) < MAX = omega (arith, accepted_few items lines, few) in
    let told = judged (vehicles_of (events_of items)) (accepted_of items lines) so_far.vehicles within in
    let Is : EventItem → Type 0 = λ item.
    IsReplayed c.args.opening c.args.tables.now (items ++ item ∷ []) (lines ++ line ∷ []) c.judge_event.new.vehicles.entries c.judge_event.new.vehicles.names in
    subst Is (sym c.in-Event.is) (event_replayed c.args.opening c.args.tables.now items lines _ _ so_far c.in-Event.event line _ _ told.0 told.1))
    c.judge_event.ensures.judged

pub returns-in-Fault-clause-judged : goal.returns-in-Fault-clause-judged
returns-in-Fault-clause-judged c = λ items lines so_far few.
    let Is : EventItem → Type 0 = λ item.
    IsReplayed c.args.opening c.args.tables.now (items ++ item ∷ []) (lines ++ Fault c.in-Fault.fault ∷ []) c.args.vehicles.now.entries c.args.vehicles.now.names in
    subst Is (sym c.in-Fault.is) (fault_replayed c.args.opening c.args.tables.now items lines _ _ so_far c.in-Fault.fault)
