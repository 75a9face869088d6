use Rattle.mds_book.proofs.SightLaws.{requests_order}
use Rattle.mds_book.proofs.laws.sights_agree.Goals as goal

pub returns-clause-first : goal.returns-clause-first
returns-clause-first g c =
    rw (← c.one.view_is, ← c.other.view_is) (requests_order c.one.inside.first.sight.seen c.other.inside.first.sight.seen c.tell_order.ensures)

pub returns-clause-second : goal.returns-clause-second
returns-clause-second g c =
    rw (← c.one.view_is, ← c.other.view_is) (requests_order c.one.inside.second.sight.seen c.other.inside.second.sight.seen c.tell_order-2.ensures)
