use Rattle.mds_trace.proofs.SessionLemmas.{identifier_added}
use Rattle.mds_trace.proofs.session_events.is_new.Goals as goal

pub returns : goal.returns
returns c = λ before same.
    identifier_added before c.args.event.now c.args.seen.now.keys c.insert.new.self.keys c.in_ok-insert.field-0
    (rw (← c.id.ensures) c.in_ok-insert.ensures.added) (rw (← c.id.ensures) c.in_ok-insert.ensures.keys) same
