use Rattle.std.proofs.lemmas.Result.{IfOk-weaker}
use Rattle.mds_table.proofs.row_set.RowSet.rows.Goals as goal

pub returns : goal.returns
returns c = IfOk-weaker c.rows_of.result _ _ (λ rows is all are. is all are.order (rw c.deref.ensures.value are.moves)) c.rows_of.ensures
