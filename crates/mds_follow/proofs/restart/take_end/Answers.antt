use Rattle.mds_follow.proofs.ReadBack.{refused_end}
use Rattle.mds_follow.proofs.restart.take_end.Goals as goal

-- the tables refuse one of the group's requests
pub returns-in_ok-put_aside-in-Refused-clause-refused : goal.returns-in_ok-put_aside-in-Refused-clause-refused
returns-in_ok-put_aside-in-Refused-clause-refused g c = λ told refilled no.
    let why = rw c.deref.ensures.value at c.in-Err.ensures.refused in
    refused_end c.args.book.now.tables c.args.seat.now told c.args.end.now.requests.items c.in-Err.stop.at refilled (why c.in-Refused.is)
