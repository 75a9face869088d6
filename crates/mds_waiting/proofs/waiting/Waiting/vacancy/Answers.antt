use Rattle.std.proofs.Common.{arith}
use Rattle.mds_waiting.proofs.SlotLemmas.{IsKept-grow, vacant_at_end}
use Rattle.mds_waiting.proofs.waiting.Waiting.vacancy.Goals as goal

pub invariant_of-self-then-len-lt-MAX_WAITING : goal.invariant_of-self-then-len-lt-MAX_WAITING
invariant_of-self-then-len-lt-MAX_WAITING g c =
    rw c.in_ok-push.ensures.items
    (IsKept-grow _ _ _ _ c.self.invariant (omega (arith, c.self.inside.slots.ok.0)))

pub returns-then-len-lt-MAX_WAITING-clause-vacant :
    goal.returns-then-len-lt-MAX_WAITING-clause-vacant
returns-then-len-lt-MAX_WAITING-clause-vacant g c =
    rw c.in_ok-push.ensures.items (vacant_at_end _ c.len-key.result (omega (arith, c.self.inside.slots.ok.0)))
