use Rattle.std.proofs.Common.{sym, subst}
use Rattle.std.proofs.lemmas.Option.{IfSome_then}
use Rattle.mds_waiting.specs.Waiting.{IsLate}
use Rattle.mds_waiting.proofs.LeastLemmas.{HasTime-from_least, InTime-from_time, IsLate-from_least, none_then}
use Rattle.mds_waiting.proofs.SlotLemmas.{IsKept-time}
use Rattle.mds_waiting.proofs.waiting.Waiting.find_late.Goals as goal

pub invariant_of-self-in-Some : goal.invariant_of-self-in-Some
invariant_of-self-in-Some g c =
    IsKept-time _ _ _ _ c.in-Some.found.time c.self.invariant
    (HasTime-from_least _ c.in-Some.found (rw c.deref.ensures.value at c.in-Some.ensures))

pub returns-in-Some-clause-late : goal.returns-in-Some-clause-late
returns-in-Some-clause-late g c =
    let least = rw (c.deref.ensures.value, c.self.view_is) at c.in-Some.ensures in
    IfSome_then c.key_if_over.result c.key_if_over.ensures.over (λ key is.
    subst (IsLate c.args.now c.args.self.now) (sym is.0)
    (IsLate-from_least c.args.now c.args.self.now c.in-Some.found least is.1))

pub returns-in-Some-clause-none : goal.returns-in-Some-clause-none
returns-in-Some-clause-none g c =
    let least = rw (c.deref.ensures.value, c.self.view_is) at c.in-Some.ensures in
    none_then c.key_if_over.result c.key_if_over.ensures.early
    (InTime-from_time c.args.now c.args.self.now c.in-Some.found.time
    (HasTime-from_least c.args.self.now c.in-Some.found least))

pub returns-then-is_before-clause-none : goal.returns-then-is_before-clause-none
returns-then-is_before-clause-none g c =
    InTime-from_time c.args.now c.args.self.now c.self.inside.soonest (rw c.self.view_is at c.self.invariant.punctual)
    (c.is_before.ensures c.if-is_before.true)
