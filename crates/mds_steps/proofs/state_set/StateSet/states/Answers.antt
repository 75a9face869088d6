use Rattle.std.proofs.Common.{arith, length, lit<, ◌∙◌, ap, sym, subst, filter}
use Rattle.std.proofs.lemmas.List.{take_all}
use Rattle.mds_table.specs.Mask.{has_bit}
use Rattle.mds_steps.specs.StateSet.{all_states, states_in, AreInCodeOrder}
use Rattle.mds_steps.proofs.Members.{states_ordered, filter_yes, filter_no, filter_few}
use Rattle.mds_steps.proofs.state_set.StateSet.states.Goals as goal
use Rattle.mds_steps.proofs.state_set.StateSet.states.Goals.{then-has, else-has}

pub push-requires : goal.push-requires
push-requires c = (lit< tt, omega (arith, ap length c.loop-state.invariant, filter_few c.self.inside.bits.0 c.loop-state.state-index, c.loop-state-test.true))

pub loop-state-preserved : goal.loop-state-preserved
loop-state-preserved c = elim c.if-has.branch [
  | then-has w ↦ rw (w.states-is, w.push.ensures.items, c.loop-state.invariant) (sym (filter_yes _ _ _ c.loop-state-test.true (sym c.has.ensures ∙ w.if-has.true)))
  | else-has w ↦ rw (w.states-is, c.loop-state.invariant) (sym (filter_no _ _ _ c.loop-state-test.true (sym c.has.ensures ∙ w.if-has.false)))
]

pub returns-clause-items : goal.returns-clause-items
unfolding states_in
returns-clause-items c = c.loop-state.invariant ∙ ap (filter (has_bit c.self.inside.bits.0)) (take_all _ all_states c.loop-state-test.false) ∙ c.self.view_is

pub returns-clause-order : goal.returns-clause-order
returns-clause-order c = subst (λ states. AreInCodeOrder states) (c.self.view_is ∙ sym (returns-clause-items c)) (states_ordered c.self.inside.bits.0)
