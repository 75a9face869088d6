use Rattle.std.proofs.Common.{◌++◌, ◌∷◌, [], take, sym, ◌∙◌, ap, arith}
use Rattle.std.proofs.lemmas.List.{append_assoc, append-nil}
use Rattle.mds_pieces.proofs.Steps.{take_next}
use Rattle.mds_pieces.proofs.join.append.Goals as goal

pub loop-at-preserved : goal.loop-at-preserved
loop-at-preserved c =
    let before = c.loop-at.items in
    c.in_ok-take.ensures.taken before [] (sym (append-nil before)) (omega arith)
    ∙ ap (λ items. items ++ c.put_item.new.item ∷ []) c.loop-at.invariant
    ∙ append_assoc c.args.items.now (take c.loop-at.at c.args.more.now) (c.put_item.new.item ∷ [])
    ∙ ap (λ items. c.args.items.now ++ items) (take_next c.args.more.now c.loop-at.at c.put_item.new.item c.put_item.ensures)
