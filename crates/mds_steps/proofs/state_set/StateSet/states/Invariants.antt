use Rattle.std.proofs.Common.{◌≡◌, filter, take}
use Rattle.mds_table.specs.Mask.{has_bit}
use Rattle.mds_steps.specs.StateSet.{all_states}
use Rattle.mds_steps.proofs.state_set.StateSet.states.Given as goal

-- those of the states so far whose bits are set stand in the list
abbrev pub invariant-loop-state : goal.invariant-loop-state
invariant-loop-state l = l.states.items ≡ filter (has_bit l.mask) (take l.state-index all_states)
