use Rattle.std.proofs.Common.{arith}
use Rattle.mds_trace.proofs.Passed.{one_further}
use Rattle.mds_trace.proofs.session.Session.pass_type.Goals as goal

pub invariant_of-self : goal.invariant_of-self
invariant_of-self c =
    let walk = c.self.invariant in
    let more = rw (← c.self.view_is) at c.requires in record {
      open_from = walk.open_from;
      within = record { event = walk.within.event; passed = omega (arith, more) };
      kept = rw c.push.ensures.items (one_further _ _ _ _ _ _ _ walk.kept (rw c.deref.ensures.0 at c.index-deref-passed.is)
          (rw (c.present_table.ensures, ← c.self.view_is, c.types_at-types.ensures.types) at c.forward-next.ensures));
    }
