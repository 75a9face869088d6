use Rattle.std.proofs.Common.{◌≤◌, [], ◌∷◌, ap, length, arith, length-append}
use Rattle.mds_steps.proofs.Sets.{openings_next}
use Rattle.mds_steps.proofs.Least.{ends_push}
use Rattle.mds_steps.proofs.chain.openings_of_ends.Goals as goal

pub loop-at-preserved : goal.loop-at-preserved
loop-at-preserved c =
    let some : 1 ≤ c.loop-at.at = omega arith in
    let within : c.loop-at.at ≤ length c.args.types.now = omega arith in
    record {
      count = omega (arith, ap length c.in_ok-push.ensures.items, length-append c.loop-at.sets.items (c.loop-at.openings ∷ []));
      now = openings_next _ _ _ _ _ _ _ some within c.index-types-at.is c.loop-at.invariant.now c.previous_states-openings.ensures;
      before = rw c.in_ok-push.ensures.items (ends_push _ _ _ _ _ _ c.loop-at.invariant.count c.loop-at.invariant.now c.loop-at.invariant.before);
    }

pub returns : goal.returns
returns c =
    let before = ends_push _ _ _ _ _ _ c.loop-at.invariant.count c.loop-at.invariant.now c.loop-at.invariant.before in
    let more = length-append c.loop-at.sets.items (c.loop-at.openings ∷ []) in
    rw c.in_ok-push-2.ensures.items (record {
      count = omega (arith, more, c.loop-at.invariant.count, c.loop-at-test.false);
      each = λ at n d sum. before at n d (omega (arith, more, sum, c.loop-at.invariant.count, c.loop-at-test.false)) sum;
    })
