use Rattle.std.proofs.Common.{◌+◌, ◌++◌, List, length, cond, refl, sym, ap, subst, ◌∙◌, arith}
use Rattle.mds_core.specs.Reported.{Reported}
use Rattle.mds_trace.specs.Replay.{accepted_by, prior_of}
use Rattle.mds_trace.specs.Vehicle.{is_event_of, VehicleReplaying, TookSince}
use Rattle.mds_trace.proofs.VehicleLemmas.{one_more}
use Rattle.mds_trace.proofs.vehicle.VehicleReplayTakesItems.take.Goals as goal

pub returns-clause-taken : goal.returns-clause-taken
returns-clause-taken c = λ before items took few.
    let inside = c.self.inside in
    let item = c.args.item.now in
    let line = c.in_ok-line.line in
    let old : VehicleReplaying = record { replay = inside.replayer; key = inside.key; accepted = inside.events.accepted.events; refused = inside.events.refused } in
    let new : VehicleReplaying = record { replay = c.take.new.self; key = inside.key; accepted = c.add.new.self.accepted.events; refused = c.add.new.self.refused } in
    let mine : TookSince before items old = subst (λ (seen : VehicleReplaying). TookSince before items seen) (sym c.self.view_is) took in
    let accepted = c.add.ensures.accepted ∙ ap (λ events. events ++ prior_of inside.key (accepted_by item line)) c.reserve.ensures.events in (
      c.take.ensures.tables ∙ mine.0,
      mine.1,
      one_more items item line _ old new (omega arith) mine.2 few c.take.ensures.opening refl (c.in_ok-line.ensures.took items mine.2.replayed (omega (arith, few)))
          c.in_ok-line.ensures.judged accepted
          (λ fits. c.add.ensures.counted fits
          ∙ ap (λ (events : List Reported). length events + inside.events.refused + cond (is_event_of inside.key item) 1 0) c.reserve.ensures.events),
    )
