-- A connection that waits if the system could be asked about it.
use Rattle.std.proofs.Common.{◌≡◌, inl, inr, ℕ, Bool, true, false, List, Option, Some, refl}
use Rattle.std.specs.Prelude.{◌⊎◌, slice_set}
use Rattle.mds_waiting.specs.declared.waiter.Waiter.{Waiter}

-- it waits, or the others are as they were
pub waits-or_gone : {S : Type 0} (is_asked : Bool) (old new : List (Option (Waiter S))) (key : ℕ) (waiter : Waiter S)
    → (is_asked ≡ true → new ≡ slice_set old key (Some waiter)) → (is_asked ≡ false → new ≡ old)
    → (new ≡ old) ⊎ ((other : Waiter S) × (new ≡ slice_set old key (Some other)))
waits-or_gone true old new key waiter waits gone = inr (waiter, waits refl)
waits-or_gone false old new key waiter waits gone = inl (gone refl)
