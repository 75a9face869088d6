-- What holds of replays.
use Rattle.std.specs.Prelude.{◌≡◌, ℕ, List, [], ◌++◌, map, take}
use Rattle.std.specs.Prelude.{slice_get, Contains, Option, Some, None}
use Rattle.std.specs.List.{filter_map, zip}
use Rattle.mds_table.specs.Tables.{Tables}
use Rattle.mds_core.specs.declared.key.Key.{Key}
use Rattle.mds_core.specs.declared.request.Request.{Request}
use Rattle.mds_core.specs.declared.request.Request.TheVariants.{Register, Report, Look}
use Rattle.mds_core.specs.declared.reply.Outcome.{Outcome}
use Rattle.mds_core.specs.declared.reply.Outcome.TheVariants.{Done, Refused as RefusedBy}
use Rattle.mds_core.specs.declared.reply.Reply.{Reply}
use Rattle.mds_core.specs.Reported.{Reported}
use Rattle.mds_core.specs.History.{requests_of, reports}
use Rattle.mds_core.specs.Run.{IsRun}
use Rattle.mds_core.specs.Headline.{AcceptsExactly}
use Rattle.mds_batch.specs.declared.item.EventItem.{EventItem}
use Rattle.mds_trace.specs.declared.report.Opening.{Opening}
use Rattle.mds_trace.specs.declared.report.Opening.TheVariants.{Removed}
use Rattle.mds_trace.specs.declared.report.Report.{Report as Replayed}
use Rattle.mds_trace.specs.declared.report.Verdict.{Verdict}
use Rattle.mds_trace.specs.declared.report.Verdict.TheVariants.{Accepted, Refused}
use Rattle.mds_trace.specs.declared.report.Verdict.TheVariants.{NoOpening, Fault}
use Rattle.mds_trace.specs.Items.{events_of, vehicles_of}
use Rattle.mds_trace.specs.Replay.{accepted_of, prior_of, as_requests, AreVerdicts, IsReport}

-- the outcome that a verdict tells; of a faulty item there is none
abbrev pub outcome_told : Verdict → Option Outcome
outcome_told (Accepted state) = Some Done
outcome_told (Refused refusal) = Some (RefusedBy refusal)
outcome_told (NoOpening at) = None
outcome_told (Fault fault) = None

-- the outcome of a request that reports an event
abbrev pub outcome_of_report : Request → Reply → Option Outcome
outcome_of_report (Register key) reply = None
outcome_of_report (Report event) reply = Some reply.outcome
outcome_of_report (Look key) reply = None

-- the outcomes of the reports among requests with these replies, in their order
abbrev pub outcomes_of_reports : List Request → List Reply → List Outcome
outcomes_of_reports requests replies =
    filter_map (λ one. outcome_of_report one.0 one.1) (zip requests replies)

-- each report stands behind a registration of its vehicle
abbrev pub AreRegisteredFirst : List Request → Type 0
AreRegisteredFirst requests =
    (i : ℕ) (event : Reported)
    → slice_get requests i ≡ Some (Report event) → Contains (take i requests) (Register event.key)

-- the machine has one run of the requests from nothing, which accepts exactly what is acceptable;
-- the outcomes of its reports are those that the verdicts tell. The events that it keeps are those
-- that the verdicts accept, in their order, and of each registered vehicle it keeps its
-- registration and its events among these
pub record IsRunOf (tables : Tables) (requests : List Request) (items : List EventItem)
    (lines : List Verdict) : Type 0 where
  pub replies : List Reply
  pub history : List Request
  pub run : IsRun tables [] requests replies history
  pub only : (others : List Reply) (left : List Request)
      → IsRun tables [] requests others left → (others ≡ replies) × (left ≡ history)
  pub exactly : AcceptsExactly tables requests replies history
  pub outcomes : outcomes_of_reports requests replies ≡ filter_map outcome_told lines
  pub accepted : reports history ≡ accepted_of items lines
  pub kept : (key : Key)
      → Contains requests (Register key)
      → requests_of history key ≡ as_requests key (prior_of key (accepted_of items lines))

-- so it is of all requests that report the events of the items, in their order, each behind a
-- registration of its vehicle, whatever registrations and looks stand between
abbrev pub AreOutcomes : Tables → List EventItem → List Verdict → Type 0
AreOutcomes tables items lines =
    (requests : List Request)
    → reports requests ≡ events_of items → AreRegisteredFirst requests
    → IsRunOf tables requests items lines

-- the requests for items: a registration of each vehicle that they mention, and then a report of
-- each of their events
abbrev pub requests_for : List EventItem → List Request
requests_for items = map Register (vehicles_of (events_of items)) ++ map Report (events_of items)

-- there are such requests for all items: those that register each vehicle and then report each
-- event
abbrev pub ReplaysHaveRequests : Type 0
ReplaysHaveRequests =
    (items : List EventItem)
    → (reports (requests_for items) ≡ events_of items) × AreRegisteredFirst (requests_for items)

-- the verdicts of a replay in which each vehicle begins with a registration are the outcomes of a
-- run of the machine
abbrev pub ReplaysAreRuns : Type 0
ReplaysAreRuns =
    (tables : Tables) (items : List EventItem) (lines : List Verdict)
    → AreVerdicts Removed tables items lines → AreOutcomes tables items lines

-- the same verdicts, ends and counts
pub record AreSameReport (a b : Replayed) : Type 0 where
  pub lines : a.lines.items ≡ b.lines.items
  pub vehicles : a.vehicles.items ≡ b.vehicles.items
  pub accepted : a.accepted ≡ b.accepted
  pub refused : a.refused ≡ b.refused

-- items have one report
abbrev pub ReportsAreOne : Type 0
ReportsAreOne =
    (opening : Opening) (tables : Tables) (items : List EventItem) (a b : Replayed)
    → IsReport opening tables items a → IsReport opening tables items b → AreSameReport a b
