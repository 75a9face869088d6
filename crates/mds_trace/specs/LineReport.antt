-- What a replay of the lines of a stream comes to.
use Rattle.std.specs.Prelude.{◌≡◌, ℕ, List}
use Rattle.mds_table.specs.Tables.{Tables}
use Rattle.mds_batch.specs.declared.item.EventItem.{EventItem}
use Rattle.mds_lines.specs.Stream.{HasLineItems}
use Rattle.mds_trace.specs.declared.report.Opening.{Opening}
use Rattle.mds_trace.specs.declared.report.Opening.TheVariants.{Removed}
use Rattle.mds_trace.specs.declared.report.Report.{Report}
use Rattle.mds_trace.specs.Replay.{IsReport}
use Rattle.mds_trace.specs.ReplayLaws.{AreOutcomes}

-- the report of a replay of the items of the stream's lines; where each vehicle is registered
-- first, its verdicts are the outcomes of the machine
pub record IsLineReport (opening : Opening) (tables : Tables) (stream : List ℕ) (report : Report)
    : Type 0 where
  pub items : List EventItem
  pub lines : HasLineItems stream items
  pub report_is : IsReport opening tables items report
  pub runs : opening ≡ Removed → AreOutcomes tables items report.lines.items
