use Rattle.std.proofs.Common.{◌≡◌, take}
use Rattle.mds_trace.specs.Session.{AreOpenFrom, held_at, identifiers_of}
use Rattle.mds_trace.proofs.session_events.check_events.Given as goal

-- a session over the events so far may be opened, their identifiers were seen, and this state is held behind them
abbrev pub invariant-loop-at : goal.invariant-loop-at
invariant-loop-at l = record {
  open_from : AreOpenFrom l.tables l.fn.opening (take l.at l.events);
  seen : l.seen.keys ≡ identifiers_of (take l.at l.events);
  held : l.held ≡ held_at l.fn.opening l.events l.at;
}
