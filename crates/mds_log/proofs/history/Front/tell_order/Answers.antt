use Rattle.std.proofs.Common.{ap, subst, List}
use mathlib.Core.List.{IsPrefix}
use Rattle.mds_log.specs.declared.entry.Entry.{Entry}
use Rattle.mds_log.proofs.Lists.{acceptances_order, one_begins_other}
use Rattle.mds_log.proofs.history.Front.tell_order.Goals as goal

-- both are beginnings of what both have seen
pub returns : goal.returns
returns g c =
    let log = c.self.inside.seen.log in
    let seen = c.other.inside.seen.log in
    let both = c.learn.new.self.log in
    let this : IsPrefix log both = subst (λ (l : List Entry). IsPrefix l both) (ap (λ s. s.log) c.again-both.ensures) c.learn.ensures.2 in
    rw (← c.other.view_is, ← c.self.view_is) (acceptances_order log seen (one_begins_other log seen both this c.learn.ensures.3))
