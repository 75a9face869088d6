use Rattle.std.proofs.Common.{◌≡◌, take, Contains, length}
use Rattle.mds_table.specs.declared.state.State.{State}
use Rattle.mds_table.specs.declared.state.TheConstants.State.{COUNT}
use Rattle.mds_table.specs.Mask.{IsMask, mask_from}
use Rattle.mds_table.proofs.moves.masks_of.Given as goal

-- the masks from the states so far are there
abbrev pub invariant-loop-from : goal.invariant-loop-from
invariant-loop-from l = record {
  full : length l.masks ≡ COUNT;
  so_far : (from : State) → Contains (take l.from-index l.from-items) from → IsMask l.rows l.kind from (mask_from l.masks from);
}
