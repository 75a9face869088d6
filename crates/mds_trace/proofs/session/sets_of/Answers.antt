use Rattle.mds_trace.proofs.Passed.{one_further}
use Rattle.mds_trace.proofs.session.sets_of.Goals as goal

pub loop-passed-preserved : goal.loop-passed-preserved
loop-passed-preserved c =
    rw c.push.ensures.items (one_further _ _ _ _ _ _ _ c.loop-passed.invariant (rw c.deref.ensures.0 at c.index-deref-passed.is) c.forward-next.ensures)
