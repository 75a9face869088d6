use Rattle.std.proofs.Common.{arith}
use Rattle.mds_trace.proofs.Passed.{one_back}
use Rattle.mds_trace.proofs.session.Session.back.Goals as goal

pub invariant_of-self : goal.invariant_of-self
invariant_of-self c =
    let walk = c.self.invariant in record {
      open_from = walk.open_from;
      within = record { event = walk.within.event; passed = omega (arith, walk.within.passed) };
      kept = rw c.pop.ensures.rest (one_back _ _ _ _ _ c.if-place-gt0.true walk.kept);
    }
