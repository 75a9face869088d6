use Rattle.std.proofs.Common.{◌-◌, ◌^◌, List}
use Rattle.mds_core.specs.declared.request.Request.{Request}
use Rattle.mds_retention.specs.Lines.{HasTold}
use Rattle.mds_retention.specs.Events.{AreEventsOf}
use Rattle.mds_retention.specs.Texts.{IsReading}
use Rattle.mds_retention.proofs.vehicle_events.events_of.Given as goal

-- the lines so far told a history, and of them this is kept
abbrev pub invariant-requests : goal.invariant-requests
invariant-requests g l = record {
  open_lines : IsReading l.lines.texts;
  seen : (history : List Request) × (told : HasTold g.R.Read.remaining (g.R.Read.remaining l.fn.reader) l.lines history) × AreEventsOf l.fn.key history told.0 l.events;
}

abbrev pub decreases-requests : goal.decreases-requests
decreases-requests g l = 2 ^ 64 - l.lines.texts.count
