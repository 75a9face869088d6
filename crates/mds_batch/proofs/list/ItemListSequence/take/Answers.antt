use Rattle.mds_batch.proofs.list.ItemListSequence.take.Goals as goal

pub returns-clause-taken : goal.returns-clause-taken
returns-clause-taken g c =
    let read = c.in_ok-read_item.ensures.item in
    (read.0, read.1, λ before found held. c.in_ok-hand_on.ensures before found read.0 held read.2)
