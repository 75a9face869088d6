-- What holds of sessions over lawful histories, and over the accepted events of a replay.
use Rattle.std.specs.Prelude.{◌≡◌, ◌≢◌, ◌≤◌, ◌+◌, ℕ, List, [], length, take, slice_get, Some}
use Rattle.mds_table.specs.declared.state.State.{State}
use Rattle.mds_table.specs.declared.state.State.TheVariants.{Removed}
use Rattle.mds_table.specs.Tables.{Tables}
use Rattle.mds_core.specs.declared.key.Key.{Key}
use Rattle.mds_core.specs.declared.request.Request.{Request}
use Rattle.mds_core.specs.declared.reply.Standing.{Standing}
use Rattle.mds_core.specs.Reported.{Reported}
use Rattle.mds_core.specs.History.{requests_of, reports, state_of}
use Rattle.mds_core.specs.Lawful.{IsLawful}
use Rattle.mds_batch.specs.declared.item.EventItem.{EventItem}
use Rattle.mds_batch.specs.declared.item.EventItem.TheVariants.{Event}
use Rattle.mds_trace.specs.declared.report.Opening.TheVariants as opening
use Rattle.mds_trace.specs.declared.report.Report.{Report}
use Rattle.mds_trace.specs.declared.report.Verdict.{Verdict}
use Rattle.mds_trace.specs.declared.report.Verdict.TheVariants.{Accepted}
use Rattle.mds_trace.specs.declared.report.VehicleEnd.{VehicleEnd}
use Rattle.mds_trace.specs.Replay.{prior_of, accepted_of, AreVerdicts, IsReport}
use Rattle.mds_trace.specs.Session.{AreOpenFrom, held_at}

-- in a lawful history, a session over the events of a registered vehicle may be opened from
-- removed, and the state held before each event, and after the last, is the one that the vehicle
-- holds after its registration and as many reports
abbrev pub LawfulReportsOpen : Type 0
LawfulReportsOpen =
    (tables : Tables) (history : List Request) (key : Key)
    → IsLawful tables history → requests_of history key ≢ []
    → AreOpenFrom tables Removed (reports (requests_of history key))
    × ((i : ℕ)
    → i ≤ length (reports (requests_of history key))
    → held_at Removed (reports (requests_of history key)) i
    ≡ state_of (take (i + 1) (requests_of history key)))

-- in a replay in which each vehicle begins with a registration, a session over the accepted events
-- of any vehicle may be opened from removed
abbrev pub AcceptedEventsOpen : Type 0
AcceptedEventsOpen =
    (tables : Tables) (items : List EventItem) (lines : List Verdict) (key : Key)
    → AreVerdicts opening.Removed tables items lines
    → AreOpenFrom tables Removed (prior_of key (accepted_of items lines))

-- the accepted events of a vehicle among the first so many items
abbrev pub accepted_before : List EventItem → List Verdict → Key → ℕ → List Reported
accepted_before items lines key n = prior_of key (accepted_of (take n items) (take n lines))

-- behind each accepted event of a vehicle a session over these events of it, opened from removed,
-- holds the state of the item's verdict
abbrev pub HoldsTold : List EventItem → List Verdict → Key → List Reported → Type 0
HoldsTold items lines key events =
    (i : ℕ) (event : Reported) (state : State)
    → slice_get items i ≡ Some (Event event) → event.key ≡ key
    → slice_get lines i ≡ Some (Accepted state)
    → held_at Removed events (length (accepted_before items lines key i) + 1) ≡ state

-- a session over the accepted events of a vehicle opens from removed, and shows the states that the
-- replay told: behind each event the one of the item's verdict, and at its end the one of the
-- vehicle's line
pub record ShowsTold (tables : Tables) (items : List EventItem) (lines : List Verdict)
    (end : VehicleEnd) (events : List Reported) : Type 0 where
  pub opens : AreOpenFrom tables Removed events
  pub told : HoldsTold items lines end.key events
  pub ended : (standing : Standing) → end.standing ≡ Some standing
      → held_at Removed events (length events) ≡ standing.state

-- of a report of a replay in which each vehicle begins with a registration, a session shows the
-- states that it told of each vehicle
abbrev pub SessionsShowReports : Type 0
SessionsShowReports =
    (tables : Tables) (items : List EventItem) (report : Report) (n : ℕ) (end : VehicleEnd)
    → IsReport opening.Removed tables items report → slice_get report.vehicles.items n ≡ Some end
    → ShowsTold tables items report.lines.items end
    (prior_of end.key (accepted_of items report.lines.items))
