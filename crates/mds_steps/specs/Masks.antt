-- A set of states gives its mask back.
use Rattle.std.proofs.Common.{◌≡◌, ◌<◌, ◌^◌, ◌==◌, ℕ, true, refl}
use Rattle.std.proofs.lemmas.Bool.{agree_below_at, eqb-true}
use Rattle.mds_table.specs.declared.state.TheConstants.State.{COUNT}
use Rattle.mds_table.specs.Mask.{has_bit}
use Rattle.mds_steps.specs.StateSet.{states_in, mask_of}

-- the states in a mask have no other mask
pub mask_given_back : (mask : ℕ) → mask < 2 ^ COUNT → mask_of (states_in mask) ≡ mask
unfolding states_in has_bit
mask_given_back mask fits =
    eqb-true _ _
    (agree_below_at (λ m. mask_of (states_in m) == m) (λ _. true) (2 ^ COUNT) mask refl fits)
