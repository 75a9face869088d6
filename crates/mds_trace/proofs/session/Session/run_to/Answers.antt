use Rattle.std.proofs.Common.{◌≡◌, ◌≤◌, ◌+◌, List, length, Some, None, refl, subst, ap, arith}
use Rattle.std.proofs.lemmas.Option.{slice_get_within}
use Rattle.mds_core.specs.Reported.{Reported}
use Rattle.mds_trace.specs.Walk.{Walk}
use Rattle.mds_trace.specs.Session.{IsFirstReporting}
use Rattle.mds_trace.proofs.SessionLemmas.{first_later, none_later}
use Rattle.mds_trace.proofs.session.Session.run_to.Goals as goal

pub returns-in-Some-clause-moved : goal.returns-in-Some-clause-moved
returns-in-Some-clause-moved c =
    let events : c.self.inside.events.events ≡ c.args.self.now.events = ap (λ (walk : Walk). walk.events) c.self.view_is in
    let place : c.self.inside.place.event ≡ c.args.self.now.place.event = ap (λ (walk : Walk). walk.place.event) c.self.view_is in
    rw c.stand_before.ensures.place (first_later c.args.self.now c.args.state c.in-Some.event
    (subst (λ all. IsFirstReporting all c.args.self.now.place.event c.args.state (Some c.in-Some.event)) events
    (subst (λ from. IsFirstReporting c.self.inside.events.events from c.args.state (Some c.in-Some.event)) place c.in-Some.ensures.first)))

pub returns-in-None-clause-halt : goal.returns-in-None-clause-halt
returns-in-None-clause-halt c =
    let events : c.self.inside.events.events ≡ c.args.self.now.events = ap (λ (walk : Walk). walk.events) c.self.view_is in
    let place : c.self.inside.place.event ≡ c.args.self.now.place.event = ap (λ (walk : Walk). walk.place.event) c.self.view_is in (
      refl,
      none_later c.args.self.now c.args.state
          (subst (λ all. IsFirstReporting all c.args.self.now.place.event c.args.state None) events
          (subst (λ from. IsFirstReporting c.self.inside.events.events from c.args.state None) place c.in-None.ensures.first)),
    )

pub stand_before-requires : goal.stand_before-requires
stand_before-requires c =
    let inside = c.self.inside in
    let events : inside.events.events ≡ c.args.self.now.events = ap (λ (walk : Walk). walk.events) c.self.view_is in
    let there = c.in-Some.ensures.first.1 in
    subst (λ (all : List Reported). c.in-Some.event + 1 ≤ length all) events
    (omega (arith, slice_get_within inside.events.events c.in-Some.event there.0 there.1))
