use Rattle.std.proofs.Common.{◌+◌, take, below_more, arith}
use Rattle.mds_steps.specs.Reached.{AreReached}
use Rattle.mds_steps.proofs.Sets.{reached_next, reached_all, passes_from, passes_none}
use Rattle.mds_steps.proofs.reach.follow.Goals as goal
use Rattle.mds_steps.proofs.reach.follow.Goals.{After-next_states-reached}

-- the states after one more type
next_reached : (c : After-next_states-reached) → AreReached c.args.table.now c.args.set.now (take (c.loop-at.at + 1) c.args.types.now) c.next_states-reached.result
next_reached c = reached_next _ _ _ _ _ c.loop-at.at _ c.loop-at-test.true c.index-types-at.is c.loop-at.invariant.reached c.next_states-reached.ensures

pub returns-then-is_empty-clause-stuck : goal.returns-then-is_empty-clause-stuck
returns-then-is_empty-clause-stuck c = (
  c.loop-at-test.true,
  record {
    within = omega arith;
    passed = c.loop-at.invariant.passed;
    stuck = λ _ passes. passes_none _ _ _ _ _ (c.is_empty.ensures.0 c.if-is_empty.true) (next_reached (goal.at.returns-then-is_empty-clause-stuck c).After-next_states-reached) passes;
  },
)

pub loop-at-preserved : goal.loop-at-preserved
loop-at-preserved c =
    let reached = next_reached (goal.at.loop-at-preserved c).After-next_states-reached in record {
      reached = reached;
      passed = below_more _ _ c.loop-at.invariant.passed (passes_from _ _ _ _ _ reached (λ nothing. let empty = c.is_empty.ensures.1 nothing in cc));
    }

pub returns-clause-reached : goal.returns-clause-reached
returns-clause-reached c = (
  reached_all _ _ _ _ c.loop-at.at c.loop-at-test.false c.loop-at.invariant.reached,
  record {
    within = omega arith;
    passed = λ n less. c.loop-at.invariant.passed n (omega (arith, less, c.loop-at-test.false));
    stuck = λ more. absurd (omega (arith, more));
  },
)
