use Rattle.std.proofs.Common.{map, is_none, arith}
use Rattle.std.proofs.lemmas.List.{length-map}
use Rattle.std.proofs.lemmas.List.Sums.{count_by-le-length}
use Rattle.mds_http.proofs.VerdictLaws.{replies_are_enough}
use Rattle.mds_http.proofs.response.batch.answered_items.Goals as goal

-- no reply is wanting where there are as many as items
pub returns-then-replies-items : goal.returns-then-replies-items
returns-then-replies-items g c =
    let faults = map g.I.BatchItem.wrong c.args.items.now in
    let as_long = length-map c.args.items.now g.I.BatchItem.wrong in
    omega (arith, as_long, replies_are_enough faults c.args.replies.now (omega (arith, as_long, count_by-le-length is_none faults)))
