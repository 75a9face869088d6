use Rattle.std.proofs.Common.{map}
use Rattle.serde_json.specs.View.{view}
use Rattle.mds_table.proofs.TimedReading.{table_fault}
use Rattle.mds_table.proofs.tables_file.table_at.Goals as goal

pub returns-in-Err-clause-fault : goal.returns-in-Err-clause-fault
returns-in-Err-clause-fault c =
    rw c.of_table.ensures (table_fault c.args.at (map view c.args.rows.now) c.in-Err.fault c.in-Err.ensures.fault)
