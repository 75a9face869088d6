-- What contracts see of a replay whose lines are fed in pieces.
use Rattle.mds_table.specs.Tables.{Tables}
use Rattle.mds_lines.specs.Fed.{Fed}
use Rattle.mds_trace.specs.declared.report.Opening.{Opening}

-- the tables, what the vehicles hold at first, and what is kept of the stream that was fed
pub record Feeding : Type 0 where
  pub tables : Tables
  pub opening : Opening
  pub stream : Fed
