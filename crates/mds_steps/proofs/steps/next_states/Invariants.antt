use Rattle.std.proofs.Common.{take}
use Rattle.mds_steps.specs.StateSet.{all_states}
use Rattle.mds_steps.proofs.Gathered.{Gathers, IsStep}
use Rattle.mds_steps.proofs.steps.next_states.Given as goal

-- the set so far has the states to which rows lead from the members gone over
abbrev pub invariant-loop-from : goal.invariant-loop-from
invariant-loop-from l = Gathers (IsStep l.table l.kind l.set) (take l.from-index all_states) l.next
