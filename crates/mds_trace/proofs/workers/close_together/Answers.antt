use Rattle.std.proofs.Common.{◌++◌, ◌∷◌, [], sym, ◌∙◌, ap, arith}
use Rattle.std.proofs.lemmas.List.{append-nil}
use Rattle.mds_trace.proofs.Places.{take_push}
use Rattle.mds_trace.proofs.workers.close_together.Goals as goal

pub loop-item-preserved : goal.loop-item-preserved
loop-item-preserved c =
    let before = c.loop-item.kept in
    c.in_ok-take.ensures.taken before [] (sym (append-nil before)) (omega arith)
    ∙ ap (λ kept. kept ++ c.item-item.result ∷ []) c.loop-item.invariant
    ∙ take_push c.args.items.now c.loop-item.item-index c.item-item.result c.loop-item-test.true c.item-item.is
