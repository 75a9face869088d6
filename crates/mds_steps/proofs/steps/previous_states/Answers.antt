use Rattle.std.proofs.Common.{sym, subst, get_or, [], ◌∷◌}
use Rattle.std.proofs.lemmas.List.{take_more}
use Rattle.mds_table.specs.declared.state.State.TheVariants.{Removed}
use Rattle.mds_steps.specs.StateSet.{all_states, IsUnion}
use Rattle.mds_steps.proofs.Gathered.{Gathers, IsBack, gather_none, gather_not, back_from, previous_more, previous_all}
use Rattle.mds_steps.proofs.steps.previous_states.Goals as goal
use Rattle.mds_steps.proofs.steps.previous_states.Goals.{then-not-is_empty, else-not-is_empty}

pub loop-from-init : goal.loop-from-init
loop-from-init c = subst (Gathers (IsBack c.args.table.now c.args.kind.now c.args.set.now) []) (sym c.empty-previous.ensures) (gather_none _)

pub loop-from-preserved : goal.loop-from-preserved
loop-from-preserved c = rw (take_more all_states c.loop-from.from-index Removed c.loop-from-test.true) (
    let back = back_from c.args.table.now c.args.kind.now c.args.set.now c.masks-masks.result c.masks-masks.ensures c.led_to.result c.intersection.result _ c.led_to.ensures c.intersection.ensures in
    elim c.if-not-is_empty.branch [
      | then-not-is_empty w ↦
          let both : IsUnion c.loop-from.previous (get_or all_states c.loop-from.from-index Removed ∷ []) w.union-previous.result =
          subst (λ one. IsUnion c.loop-from.previous one w.union-previous.result) w.of.ensures w.union-previous.ensures in
          rw w.previous-is (previous_more _ _ _ _ _ _ _ c.loop-from.invariant (back.0 (λ none. let empty = c.is_empty.ensures.1 none in cc (empty, w.if-not-is_empty.true))) both)
      | else-not-is_empty w ↦ rw w.previous-is (gather_not _ _ _ _ c.loop-from.invariant (λ from found. back.1 (c.is_empty.ensures.0 w.if-not-is_empty.false) found.1))
    ])

pub returns : goal.returns
returns c = previous_all _ _ _ _ _ c.loop-from-test.false c.loop-from.invariant
