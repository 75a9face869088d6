use Rattle.std.proofs.Common.{◌+◌, ◌-◌, length, drop, sym, Some, refl, subst, arith}
use Rattle.mds_steps.specs.Opening.{AreOpenings}
use Rattle.mds_steps.specs.LeastChain.{IsLeastNext}
use Rattle.mds_steps.proofs.Least.{least_more, some_next, leads_from}
use Rattle.mds_steps.proofs.chain.least_chain.Goals as goal
use Rattle.mds_steps.proofs.chain.least_chain.Goals.{After-least_next, After-contains}

-- the openings of the types after the present one
openings_onward : (c : After-least_next) → AreOpenings c.args.table.now (drop (c.loop-at.at + 1) c.args.types.now) c.args.reported c.index-in-loop-at.result.now
openings_onward c = subst (AreOpenings c.args.table.now (drop (c.loop-at.at + 1) c.args.types.now) c.args.reported) (sym c.index-in-loop-at.ensures)
    (c.in_ok-onward.ensures.each (c.loop-at.at + 1) (length c.args.types.now - c.loop-at.at - 1) c.index-in-loop-at.result.now (omega (arith, c.loop-at-test.true)))

-- the openings of all types
openings_all : (c : After-contains) → AreOpenings c.args.table.now c.args.types.now c.args.reported c.index.result.now
openings_all c = subst (AreOpenings c.args.table.now c.args.types.now c.args.reported) (sym c.index.ensures)
    (c.in_ok-onward.ensures.each 0 (length c.args.types.now) c.index.result.now (omega arith))

pub returns-then-not-contains : goal.returns-then-not-contains
returns-then-not-contains c leads = let found = c.contains.ensures.1 ((openings_all (goal.at.returns-then-not-contains c).After-contains c.args.held).1 leads) in cc (found, c.if-not-contains.true)

pub loop-at-init : goal.loop-at-init
loop-at-init c = record {
  leads = (openings_all (goal.at.loop-at-init c).After-contains c.args.held).0 (c.contains.ensures.0 c.if-not-contains.false);
  least = λ rest h. rw c.new-chain.ensures.items h;
}

pub unwrap-state-requires : goal.unwrap-state-requires
unwrap-state-requires c =
    some_next c.args.table.now c.loop-at.state c.index-types-at.result _ c.args.reported c.index-in-loop-at.result.now c.least_next.result (openings_onward (goal.at.unwrap-state-requires c).After-least_next)
    (leads_from c.args.table.now c.args.types.now c.loop-at.at c.index-types-at.result c.loop-at.state c.args.reported c.loop-at-test.true c.index-types-at.is c.loop-at.invariant.leads)
    c.least_next.ensures

pub loop-at-preserved : goal.loop-at-preserved
loop-at-preserved c =
    let onward = openings_onward (goal.at.loop-at-preserved c).After-least_next in
    let first : IsLeastNext c.args.table.now c.loop-at.state c.index-types-at.result c.index-in-loop-at.result.now (Some c.unwrap-state.result) =
    subst (λ found. IsLeastNext c.args.table.now c.loop-at.state c.index-types-at.result c.index-in-loop-at.result.now found) c.unwrap-state.ensures c.least_next.ensures in
    record {
      leads = (onward c.unwrap-state.result).0 first.0;
      least = rw c.in_ok-push.ensures.items (least_more c.args.table.now c.args.types.now c.loop-at.at c.index-types-at.result c.args.held c.loop-at.state
          c.unwrap-state.result c.args.reported c.index-in-loop-at.result.now c.loop-at.chain.items (Some c.unwrap-state.result) c.loop-at-test.true c.index-types-at.is
          onward refl first c.loop-at.invariant.least);
    }
