use Rattle.std.proofs.Common.{rules}
use Rattle.mds_trace.proofs.Passed.{none_passed}
use Rattle.mds_trace.proofs.session.Session.stand_before.Goals as goal

pub invariant_of-self : goal.invariant_of-self
invariant_of-self c = record {
  open_from = c.self.invariant.open_from;
  within = search rules;
  kept = rw (c.sets_before-self-inside.ensures, c.held_at.ensures) (none_passed _ _ _);
}
