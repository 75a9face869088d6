use Rattle.mds_waiting.proofs.LeastLemmas.{IsEldest-from_least}
use Rattle.mds_waiting.proofs.waiting.Waiting.eldest_holding.Goals as goal

pub returns-clause-eldest : goal.returns-clause-eldest
returns-clause-eldest g c =
    rw (← c.self.view_is)
    (IsEldest-from_least c.args.bytes _ c.in_ok-found.found (rw c.deref.ensures.value at c.in_ok-found.ensures))
