-- What contracts see of a replay of any number of items, which keeps no verdict.
use Rattle.std.specs.Prelude.{◌≡◌, ◌+◌, ℕ, List, length, count_by}
use Rattle.std.specs.List.{AllZip}
use Rattle.mds_table.specs.Tables.{Tables}
use Rattle.mds_core.specs.declared.event_name.EventName.{EventName}
use Rattle.mds_core.specs.declared.key.Key.{Key}
use Rattle.mds_batch.specs.declared.item.EventItem.{EventItem}
use Rattle.mds_trace.specs.declared.report.Opening.{Opening}
use Rattle.mds_trace.specs.declared.report.Verdict.{Verdict}
use Rattle.mds_trace.specs.declared.followed.Followed.{Followed}
use Rattle.mds_trace.specs.declared.unlimited_replay.ReplayEnd.{ReplayEnd}
use Rattle.mds_trace.specs.Items.{events_of, vehicles_of}
use Rattle.mds_trace.specs.Verdict.{accepts}
use Rattle.mds_trace.specs.Replay.{AreVerdicts, IsEnd, accepted_of}
use Rattle.mds_trace.specs.Followed.{IsReplayed}

-- the tables, what the vehicles hold at first, what is kept of the vehicles that were mentioned, the
-- names of the accepted events, and how many items were accepted and how many were not
pub record ReplayingAll : Type 0 where
  pub tables : Tables
  pub opening : Opening
  pub vehicles : List (Key × Followed)
  pub names : List EventName
  pub accepted : ℕ
  pub refused : ℕ

-- these are the items that a replay took, and the verdicts that it told: it keeps what a replay of
-- them keeps, and has counted them
pub record TookAll (items : List EventItem) (lines : List Verdict) (replay : ReplayingAll) : Type 0
  where
    pub replayed : IsReplayed replay.opening replay.tables items lines replay.vehicles replay.names
    pub accepted : replay.accepted ≡ count_by accepts lines
    pub all : replay.accepted + replay.refused ≡ length items

-- what a replay of the items comes to, of which these are the verdicts: an end of each vehicle in
-- the order of first mention, and how many items were accepted and how many were not
pub record IsEndOfReplay (opening : Opening) (tables : Tables) (items : List EventItem)
    (lines : List Verdict) (end : ReplayEnd) : Type 0 where
  pub verdicts : AreVerdicts opening tables items lines
  pub vehicles : AllZip (IsEnd opening tables (accepted_of items lines))
      (vehicles_of (events_of items)) end.vehicles.items
  pub accepted : end.accepted ≡ count_by accepts lines
  pub all : end.accepted + end.refused ≡ length items
