use Rattle.std.proofs.Common.{take}
use Rattle.mds_steps.specs.StateSet.{all_states}
use Rattle.mds_steps.proofs.Gathered.{Gathers, IsBack}
use Rattle.mds_steps.proofs.steps.previous_states.Given as goal

-- the set so far has those of the states gone over from which a row leads to the set
abbrev pub invariant-loop-from : goal.invariant-loop-from
invariant-loop-from l = Gathers (IsBack l.table l.kind l.set) (take l.from-index all_states) l.previous
