use Rattle.std.proofs.Common.{◌≡◌, take}
use Rattle.mds_trace.proofs.session_events.list_of.Given as goal

-- the events so far are listed
abbrev pub invariant-loop-event : goal.invariant-loop-event
invariant-loop-event l = l.list.events ≡ take l.event-index l.events
