use Rattle.mds_steps.proofs.Sets.{leads_where_reached}
use Rattle.mds_trace.proofs.Passed.{reached_here}
use Rattle.mds_trace.proofs.session.Session.possible.Goals as goal

pub returns : goal.returns
returns c =
    rw (← c.self.view_is) (λ to. leads_where_reached _ _ to _ _ (reached_here _ _ _ _ _ _ c.self.invariant.kept (rw c.deref.ensures.0 at c.index-deref-self.is)))
