use Rattle.std.proofs.Common.{sym, subst, []}
use Rattle.std.proofs.lemmas.List.{take_more}
use Rattle.mds_table.specs.declared.state.State.TheVariants.{Removed}
use Rattle.mds_steps.specs.StateSet.{all_states}
use Rattle.mds_steps.proofs.Gathered.{Gathers, IsStep, gather_none, gather_not, next_more, next_all}
use Rattle.mds_steps.proofs.steps.next_states.Goals as goal
use Rattle.mds_steps.proofs.steps.next_states.Goals.{then-contains, else-contains}

pub loop-from-init : goal.loop-from-init
loop-from-init c = subst (Gathers (IsStep c.args.table.now c.args.kind.now c.args.set.now) []) (sym c.empty-next.ensures) (gather_none _)

pub loop-from-preserved : goal.loop-from-preserved
loop-from-preserved c = rw (take_more all_states c.loop-from.from-index Removed c.loop-from-test.true) (elim c.if-contains.branch [
  | then-contains w ↦ rw w.next-is (next_more _ _ _ c.masks-masks.result c.masks-masks.ensures _ _ _ _ _ c.loop-from.invariant (c.contains.ensures.0 w.if-contains.true) w.led_to.ensures w.union-next.ensures)
  | else-contains w ↦ rw w.next-is (gather_not _ _ _ _ c.loop-from.invariant (λ to step. let held = c.contains.ensures.1 step.0 in cc (held, w.if-contains.false)))
])

pub returns : goal.returns
returns c = next_all _ _ _ _ _ c.loop-from-test.false c.loop-from.invariant
