use Rattle.mds_waiting.proofs.SlotLemmas.{IsKept-put}
use Rattle.mds_waiting.proofs.waiting.Waiting.put.Goals as goal

pub invariant_of-self : goal.invariant_of-self
invariant_of-self g c =
    rw (c.fill.ensures, c.weight_of.ensures, c.len.ensures, c.min-self-inside.ensures)
    (IsKept-put _ _ _ _ c.args.key c.args.waiter c.self.invariant
    (rw (← c.self.view_is) at c.requires.vacant) (rw (← c.self.view_is) at c.requires.room))
