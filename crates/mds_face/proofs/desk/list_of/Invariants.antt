use Rattle.std.proofs.Common.{◌≡◌, take}
use Rattle.mds_face.proofs.desk.list_of.Given as goal

-- the events so far are in the list
abbrev pub invariant-loop-event : goal.invariant-loop-event
invariant-loop-event l = l.list.events ≡ take l.event-index l.events
