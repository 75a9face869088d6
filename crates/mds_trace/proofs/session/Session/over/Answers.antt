use Rattle.std.proofs.Common.{rules}
use Rattle.mds_trace.proofs.Passed.{none_passed}
use Rattle.mds_trace.proofs.session.Session.over.Goals as goal

pub invariant_of-result : goal.invariant_of-result
invariant_of-result c = record {
  open_from = search rules;
  within = search rules;
  kept = rw c.sets_before.ensures (none_passed _ _ _);
}
