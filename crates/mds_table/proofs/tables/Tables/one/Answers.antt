use Rattle.mds_table.proofs.TimedReading.{one_timed}
use Rattle.mds_table.proofs.tables.Tables.one.Goals as goal

pub invariant_of-result : goal.invariant_of-result
invariant_of-result c = rw (c.in_ok-add.ensures, c.in_ok-entries.ensures.items) (one_timed c.args.table)
