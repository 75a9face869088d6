-- What holds of sessions over the accepted events of a replay with no opening given, whose file may
-- begin midway.
use Rattle.std.specs.Prelude.{◌≡◌, ◌↔◌, ◌+◌, ℕ, List, length, slice_get, Some, Contains}
use Rattle.mds_table.specs.declared.state.State.{State}
use Rattle.mds_table.specs.Tables.{Tables}
use Rattle.mds_core.specs.declared.key.Key.{Key}
use Rattle.mds_core.specs.declared.reply.Standing.{Standing}
use Rattle.mds_core.specs.Reported.{Reported}
use Rattle.mds_batch.specs.declared.item.EventItem.{EventItem}
use Rattle.mds_batch.specs.declared.item.EventItem.TheVariants.{Event}
use Rattle.mds_trace.specs.declared.report.Opening.TheVariants.{Any}
use Rattle.mds_trace.specs.declared.report.Report.{Report}
use Rattle.mds_trace.specs.declared.report.Verdict.{Verdict}
use Rattle.mds_trace.specs.declared.report.Verdict.TheVariants.{Accepted}
use Rattle.mds_trace.specs.declared.report.VehicleEnd.{VehicleEnd}
use Rattle.mds_trace.specs.Replay.{prior_of, accepted_of, IsReport}
use Rattle.mds_trace.specs.Session.{AreOpenFrom, held_at}
use Rattle.mds_trace.specs.SessionLaws.{accepted_before}

-- behind each accepted event of a vehicle a session over these events of it, opened from this
-- state, holds the state of the item's verdict
abbrev pub HoldsToldFrom : State → List EventItem → List Verdict → Key → List Reported → Type 0
HoldsToldFrom from items lines key events =
    (i : ℕ) (event : Reported) (state : State)
    → slice_get items i ≡ Some (Event event) → event.key ≡ key
    → slice_get lines i ≡ Some (Accepted state)
    → held_at from events (length (accepted_before items lines key i) + 1) ≡ state

-- a session over the accepted events of a vehicle opens from each state in which the replay says
-- that it may have opened, and from no other; from whichever it is opened, it shows the states that
-- the replay told: behind each event the one of the item's verdict, and at its end the one of the
-- vehicle's line
pub record ShowsToldFromEach (tables : Tables) (items : List EventItem) (lines : List Verdict)
    (end : VehicleEnd) (events : List Reported) : Type 0 where
  pub opens : (from : State) → Contains end.openings from ↔ AreOpenFrom tables from events
  pub told : (from : State) → HoldsToldFrom from items lines end.key events
  pub ended : (from : State) (standing : Standing) → end.standing ≡ Some standing
      → held_at from events (length events) ≡ standing.state

-- so it is of each vehicle of a report of a replay with no opening given
abbrev pub MidwaySessionsShowReports : Type 0
MidwaySessionsShowReports =
    (tables : Tables) (items : List EventItem) (report : Report) (n : ℕ) (end : VehicleEnd)
    → IsReport Any tables items report → slice_get report.vehicles.items n ≡ Some end
    → ShowsToldFromEach tables items report.lines.items end
    (prior_of end.key (accepted_of items report.lines.items))
