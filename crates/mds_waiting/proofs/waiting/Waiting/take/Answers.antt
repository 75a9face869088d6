use Rattle.std.proofs.Common.{sym, ◌∙◌}
use Rattle.mds_waiting.proofs.SlotLemmas.{IsKept-take}
use Rattle.mds_waiting.proofs.waiting.Waiting.take.Goals as goal

pub invariant_of-self-then-len-lt-MAX_WAITING : goal.invariant_of-self-then-len-lt-MAX_WAITING
invariant_of-self-then-len-lt-MAX_WAITING g c =
    rw (c.empty_slot.ensures.slots, c.weight_of.ensures, c.len.ensures)
    (IsKept-take _ _ _ _ c.args.key c.in_ok-waiter.waiter c.self.invariant (sym c.empty_slot.ensures.taken ∙ c.in_ok-waiter.was))

pub invariant_of-self-else-len-lt-MAX_WAITING : goal.invariant_of-self-else-len-lt-MAX_WAITING
invariant_of-self-else-len-lt-MAX_WAITING g c =
    rw (c.empty_slot.ensures.slots, c.weight_of.ensures, c.len.ensures)
    (IsKept-take _ _ _ _ c.args.key c.in_ok-waiter.waiter c.self.invariant (sym c.empty_slot.ensures.taken ∙ c.in_ok-waiter.was))
