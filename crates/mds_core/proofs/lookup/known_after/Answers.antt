use Rattle.std.proofs.Common.{refl}
use Rattle.mds_core.proofs.Standings.{known-push}
use Rattle.mds_core.proofs.lookup.known_after.Goals as goal

pub returns-then-known : goal.returns-then-known
returns-then-known c = λ requests are within.
    known-push requests c.args.request.now c.args.asked.now c.args.known c.standing_after.result c.args.known.has_event are
    (c.standing_after.ensures requests are.standing within) (rw c.if-known.true refl)

pub returns-else-known : goal.returns-else-known
returns-else-known c = λ requests are within.
    known-push requests c.args.request.now c.args.asked.now c.args.known c.standing_after.result c.is_same_event.result are
    (c.standing_after.ensures requests are.standing within) (rw c.if-known.false c.is_same_event.ensures)
