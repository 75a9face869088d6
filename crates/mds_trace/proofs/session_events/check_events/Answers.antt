use Rattle.std.proofs.Common.{◌≡◌, ◌+◌, ◌↔◌, List, Some, IsTrue, take, slice_get, refl, sym, subst, ◌∙◌}
use Rattle.std.proofs.lemmas.Bool.{true≢false}
use Rattle.std.proofs.lemmas.Option.{slice_get_read}
use Rattle.mds_core.specs.Reported.{Reported}
use Rattle.mds_trace.specs.Session.{AreInOrder, identifiers_of}
use Rattle.mds_trace.proofs.SessionLemmas.{held_after, open_more, take_push}
use Rattle.mds_trace.proofs.session_events.check_events.Goals as goal
use Rattle.mds_trace.proofs.session_events.check_events.Goals.{In_ok-keeps_order}

-- the event keeps the order exactly where the events up to it are in order, and its identifier was seen then
in_order : (c : In_ok-keeps_order)
    → (IsTrue c.in_ok-keeps_order.field-0 ↔ AreInOrder (take (c.loop-at.at + 1) c.args.events.now))
    × (IsTrue c.in_ok-keeps_order.field-0 → c.keeps_order.new.seen.keys ≡ identifiers_of (take (c.loop-at.at + 1) c.args.events.now))
in_order c =
    subst (λ (all : List Reported). (IsTrue c.in_ok-keeps_order.field-0 ↔ AreInOrder all) × (IsTrue c.in_ok-keeps_order.field-0 → c.keeps_order.new.seen.keys ≡ identifiers_of all))
    (take_push c.args.events.now c.loop-at.at c.index-events-at.result c.loop-at-test.true c.index-events-at.is)
    (c.in_ok-keeps_order.ensures c.loop-at.invariant.seen c.loop-at.invariant.open_from.order)

-- the event at the place
at_place : (c : In_ok-keeps_order) → slice_get c.args.events.now c.loop-at.at ≡ Some c.index-events-at.result
at_place c = slice_get_read c.args.events.now _ c.loop-at.at c.index-events-at.result refl c.loop-at-test.true c.index-events-at.is

pub returns-then-not-branch-clause-fault : goal.returns-then-not-branch-clause-fault
returns-then-not-branch-clause-fault c =
    let kept = in_order (goal.at.returns-then-not-branch-clause-fault c).In_ok-keeps_order in
    (c.loop-at-test.true, c.loop-at.invariant.open_from, λ all. true≢false (sym (kept.0.1 all) ∙ c.if-not-branch.true))

pub returns-in-Err-clause-fault : goal.returns-in-Err-clause-fault
returns-in-Err-clause-fault c =
    let kept = in_order (goal.at.returns-in-Err-clause-fault c).In_ok-keeps_order in
    let refused = rw (c.at-table.ensures, c.time.ensures.time, c.loop-at.invariant.held, c.types.ensures.types, c.state.ensures) at c.in-Err.ensures.fault in (
      c.loop-at.invariant.open_from,
      kept.0.0 c.if-not-branch.false,
      (c.index-events-at.result, at_place (goal.at.returns-in-Err-clause-fault c).In_ok-keeps_order, record { none = refused.0; place = refused.1 }),
    )

pub loop-at-preserved : goal.loop-at-preserved
loop-at-preserved c =
    let kept = in_order (goal.at.loop-at-preserved c).In_ok-keeps_order in
    let leads = rw (c.at-table.ensures, c.time.ensures.time, c.loop-at.invariant.held, c.types.ensures.types, c.state.ensures) at (c.in_default.ensures.exact.0 refl) in record {
      open_from = open_more c.args.tables.now c.args.opening c.args.events.now c.loop-at.at c.index-events-at.result
          (at_place (goal.at.loop-at-preserved c).In_ok-keeps_order) c.loop-at.invariant.open_from (kept.0.0 c.if-not-branch.false) leads;
      seen = kept.1 c.if-not-branch.false;
      held = c.state-held.ensures ∙ sym (held_after c.args.opening c.args.events.now c.loop-at.at c.index-events-at.result
          (at_place (goal.at.loop-at-preserved c).In_ok-keeps_order));
    }
