use Rattle.std.proofs.Common.{◌≡◌, ◌+◌, length, drop}
use Rattle.mds_steps.specs.Opening.{AreOpenings}
use Rattle.mds_steps.proofs.Least.{HasOpenings}
use Rattle.mds_steps.proofs.chain.openings_of_ends.Given as goal

-- the present set has the openings of the types from here on, and those before it those of fewer types
abbrev pub invariant-loop-at : goal.invariant-loop-at
invariant-loop-at l = record {
  count : length l.sets.items + l.at ≡ length l.types;
  now : AreOpenings l.table (drop l.at l.types) l.fn.reported l.openings;
  before : HasOpenings l.table l.types l.fn.reported l.sets.items;
}
