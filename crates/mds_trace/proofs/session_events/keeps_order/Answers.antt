use Rattle.mds_trace.proofs.SessionLemmas.{order_kept, order_broken}
use Rattle.mds_trace.proofs.session_events.keeps_order.Goals as goal

pub returns-then-is_new : goal.returns-then-is_new
returns-then-is_new c same order =
    let new = c.in_ok-is_new.ensures c.args.before.now same in (
      order_kept c.args.before.now c.args.event.now c.in_ok-is_new.is_new new.0 order c.follows_on.result c.follows_on.ensures c.if-is_new.true,
      λ _. new.1 c.if-is_new.true,
    )

pub returns-else-is_new : goal.returns-else-is_new
returns-else-is_new c same order =
    let new = c.in_ok-is_new.ensures c.args.before.now same in
    (order_broken c.args.before.now c.args.event.now c.in_ok-is_new.is_new new.0 c.if-is_new.false, new.1)
