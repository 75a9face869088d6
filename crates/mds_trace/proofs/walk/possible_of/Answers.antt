use Rattle.std.proofs.Common.{subst}
use Rattle.mds_steps.specs.StateSet.{AreInCodeOrder}
use Rattle.mds_trace.proofs.walk.possible_of.Goals as goal

pub returns-clause-order : goal.returns-clause-order
returns-clause-order c = subst AreInCodeOrder c.states-in_order.ensures.items c.states-in_order.ensures.order
