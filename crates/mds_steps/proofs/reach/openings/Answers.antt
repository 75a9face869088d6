use Rattle.std.proofs.Common.{◌≤◌, length, arith}
use Rattle.mds_steps.proofs.Sets.{openings_next, openings_all, openings_never}
use Rattle.mds_steps.proofs.reach.openings.Goals as goal

pub returns-then-is_empty : goal.returns-then-is_empty
returns-then-is_empty c = openings_never _ _ _ c.loop-at.at _ (c.is_empty.ensures.0 c.if-is_empty.true) c.loop-at.invariant

pub loop-at-preserved : goal.loop-at-preserved
loop-at-preserved c =
    let some : 1 ≤ c.loop-at.at = omega arith in
    let within : c.loop-at.at ≤ length c.args.types.now = omega arith in
    openings_next _ _ _ _ _ _ _ some within c.index-types-at.is c.loop-at.invariant c.previous_states-openings.ensures

pub returns : goal.returns
returns c = openings_all _ _ _ c.loop-at.at _ c.loop-at-test.false c.loop-at.invariant
