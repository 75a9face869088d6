use Rattle.mds_trace.specs.Session.{AreSets}
use Rattle.mds_trace.proofs.session.sets_of.Given as goal

-- the sets so far are those before the first type and behind each type passed
abbrev pub invariant-loop-passed : goal.invariant-loop-passed
invariant-loop-passed l = AreSets l.fn.table l.fn.held l.fn.types l.passed l.sets.items
