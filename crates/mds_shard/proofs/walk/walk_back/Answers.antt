use Rattle.std.proofs.Common.{◌≡◌, ◌∙◌, ◌≤◌, ◌+◌, ◌++◌, Option, Some, None, List, length, sym, ap, arith, length-append}
use Rattle.std.specs.Prelude.{slice_get}
use Rattle.std.specs.Option.{option_to_list}
use Rattle.mds_core.specs.Reported.{Reported}
use Rattle.mds_shard.proofs.Walks.{told_at, walk_goes_back, walk_nears}
use Rattle.mds_shard.proofs.walk.walk_back.Goals as goal

at_most_one : (event : Option Reported) → length (option_to_list event) ≤ 1
at_most_one None = omega arith
at_most_one (Some event) = omega arith

-- a step adds one event at most
one_more : (before after : List Reported) (event : Option Reported) → after ≡ before ++ option_to_list event → length after ≤ length before + 1
one_more before after event is = omega (arith, ap length is, length-append before (option_to_list event), at_most_one event)

pub loop-step-preserved : goal.loop-step-preserved
loop-step-preserved g c =
    let history = c.args.past.now.requests in
    let before = c.args.past.now.before in
    let place = c.loop-step.place in
    let events = g.E.TakesEvents.events in
    let is = c.loop-step.invariant in
    let request = told_at (slice_get history place) c.event.result c.event.ensures in
    let at_before : slice_get before place ≡ Some (Some c.in-Some.earlier) = c.in-Some.ensures in
    let nears = walk_nears history before place request.0 (Some c.in-Some.earlier) c.requires.before request.1 at_before in record {
      within = omega (arith, nears, is.within);
      nears = omega (arith, nears, is.nears);
      few = omega (arith, is.few, one_more (events c.loop-step.list) (events c.add_event.new.list) c.event.result c.add_event.ensures.events);
      room = omega (arith, is.room, c.add_event.ensures.room);
      walk = λ seen key begins from.
          walk_goes_back seen history before key place (events c.loop-step.list) (events c.add_event.new.list) request.0 (Some c.in-Some.earlier) c.requires.before begins request.1 at_before
          (is.walk seen key begins from) (c.add_event.ensures.events ∙ ap (λ r. events c.loop-step.list ++ option_to_list r) (sym request.2));
    }

pub returns-in_default-clause-walk : goal.returns-in_default-clause-walk
returns-in_default-clause-walk g c = λ seen key begins from.
    let history = c.args.past.now.requests in
    let before = c.args.past.now.before in
    let place = c.loop-step.place in
    let events = g.E.TakesEvents.events in
    let request = told_at (slice_get history place) c.event.result c.event.ensures in
    let at_before : slice_get before place ≡ Some None = c.earlier.ensures ∙ ap Some c.in_default.is in
    walk_goes_back seen history before key place (events c.loop-step.list) (events c.add_event.new.list) request.0 None c.requires.before begins request.1 at_before
    (c.loop-step.invariant.walk seen key begins from) (c.add_event.ensures.events ∙ ap (λ r. events c.loop-step.list ++ option_to_list r) (sym request.2))
