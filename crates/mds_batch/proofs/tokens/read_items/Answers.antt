use Rattle.std.proofs.Common.{[], ◌∷◌, ◌++◌, sym, subst, arith}
use Rattle.mds_batch.proofs.Turns.{value_at-shorter, items_begun, items_turn, items_refused, items_over}
use Rattle.mds_batch.proofs.tokens.read_items.Goals as goal

pub loop-sequence-init : goal.loop-sequence-init
loop-sequence-init g c = ([], items_begun c.args.depth c.args.tokens.now, c.requires)

pub loop-sequence-smaller : goal.loop-sequence-smaller
loop-sequence-smaller g c = grind (arith, value_at-shorter _ _ _ _ c.in_ok-take.ensures.taken.1)

pub loop-sequence-preserved : goal.loop-sequence-preserved
loop-sequence-preserved g c =
    let so = c.loop-sequence.invariant in
    let taken = c.in_ok-take.ensures.taken in
    (so.0 ++ taken.0 ∷ [], items_turn so.1 _ _ _ taken.1 (grind arith), taken.2 _ so.0 so.2)

pub returns-in_err-take-clause-fault : goal.returns-in_err-take-clause-fault
returns-in_err-take-clause-fault g c refused = items_refused c.loop-sequence.invariant.1 _ (c.take.ensures.fault (grind arith)) (grind arith)

pub returns-clause-items : goal.returns-clause-items
returns-clause-items g c =
    let so = c.loop-sequence.invariant in
    let over = items_over so.1 c.take_end_array.new.self (grind arith) in
    (over.0, over.1, subst (λ all. g.S.Sequence.holds c.args.taker.now all c.loop-sequence.sequence c.loop-sequence.taker) (sym over.2) so.2)
