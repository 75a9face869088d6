use Rattle.std.proofs.Common.{arith}
use Rattle.mds_waiting.proofs.LeastLemmas.{HasBegunSince-from_least, IsEldestBefore-from_least}
use Rattle.mds_waiting.proofs.waiting.Waiting.eldest_before.Goals as goal

pub returns-in-Some-clause-eldest : goal.returns-in-Some-clause-eldest
returns-in-Some-clause-eldest g c =
    let early = c.if-found-time.true in
    IsEldestBefore-from_least c.args.time c.args.self.now c.in-Some.found
    (rw (c.deref.ensures.value, c.self.view_is) at c.in-Some.ensures) (omega (arith, early))

pub returns-in_default-clause-none : goal.returns-in_default-clause-none
returns-in_default-clause-none g c =
    let late = c.if-found-time.false in
    HasBegunSince-from_least c.args.time c.args.self.now c.in-Some.found
    (rw (c.deref.ensures.value, c.self.view_is) at c.in-Some.ensures) (omega (arith, late))
