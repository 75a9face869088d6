use Rattle.std.proofs.Common.{drop}
use Rattle.mds_steps.specs.Opening.{AreOpenings}
use Rattle.mds_steps.proofs.reach.openings.Given as goal

-- the set so far has the openings of the types from here on
abbrev pub invariant-loop-at : goal.invariant-loop-at
invariant-loop-at l = AreOpenings l.table (drop l.at l.types) l.fn.reported l.openings
