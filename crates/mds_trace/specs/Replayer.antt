-- What contracts see of a replay that takes its items one by one.
use Rattle.std.specs.Prelude.{◌≡◌, ℕ, List}
use Rattle.mds_table.specs.Tables.{Tables}
use Rattle.mds_core.specs.declared.event_name.EventName.{EventName}
use Rattle.mds_core.specs.declared.key.Key.{Key}
use Rattle.mds_batch.specs.declared.item.EventItem.{EventItem}
use Rattle.mds_trace.specs.declared.report.Opening.{Opening}
use Rattle.mds_trace.specs.declared.report.Verdict.{Verdict}
use Rattle.mds_trace.specs.declared.followed.Followed.{Followed}
use Rattle.mds_trace.specs.Followed.{IsReplayed}

-- the tables, what the vehicles hold at first, the verdicts so far, what is kept of the vehicles
-- that were mentioned, and the names of the accepted events
pub record Replaying : Type 0 where
  pub tables : Tables
  pub opening : Opening
  pub lines : List Verdict
  pub vehicles : List (Key × Followed)
  pub names : List EventName

-- these are the items that a replayer took: its verdicts are those on them, and it keeps what a
-- replay of them keeps
abbrev pub Took : List EventItem → Replaying → Type 0
Took items replayer =
    IsReplayed replayer.opening replayer.tables items
    replayer.lines replayer.vehicles replayer.names

-- since it was as before, a replayer took these items; its tables and its opening stay
abbrev pub TookSince : Replaying → List EventItem → Replaying → Type 0
TookSince before items now =
    (now.tables ≡ before.tables) × (now.opening ≡ before.opening) × Took items now
