use Rattle.mds_table.specs.RowLaws.{same_row_ties}
use Rattle.mds_table.proofs.row.RowPartialEq.eq.Goals as goal

pub returns : goal.returns
returns c = cc (same_row_ties c.args.self.now c.args.other.now)
