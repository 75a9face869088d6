use Rattle.std.proofs.Common.{ℕ, ◌+◌, ◌<◌, take}
use Rattle.mds_steps.specs.Reached.{AreReached}
use Rattle.mds_steps.specs.Stuck.{PassesFrom}
use Rattle.mds_steps.proofs.reach.follow.Given as goal

-- the set so far has the states that are reached by the types so far, each of which is passed
abbrev pub invariant-loop-at : goal.invariant-loop-at
invariant-loop-at l = record {
  reached : AreReached l.table l.set (take l.at l.types) l.reached;
  passed : (n : ℕ) → n < l.at → PassesFrom l.table l.set l.types (n + 1);
}
