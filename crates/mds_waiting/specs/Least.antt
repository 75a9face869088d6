-- The connection with the least time.
use Rattle.std.specs.Prelude.{◌≡◌, ℕ, ◌<◌, ◌≤◌, nat_le, List, length, slice_index_or}
use Rattle.std.specs.Prelude.{Option, Some, None, if◌then◌else◌, vec_len}
use Rattle.std.specs.Option.{ForSome}
use Rattle.std.specs.List.{AllWithin}
use Rattle.mds_waiting.specs.declared.waiter.Waiter.{Waiter}
use Rattle.mds_waiting.specs.declared.least.Order.{Order}
use Rattle.mds_waiting.specs.declared.least.Order.TheVariants.{Until, Begun}
use Rattle.mds_waiting.specs.declared.least.Found.{Found}

module _ {S : Type 0} where
  -- the time by which a slot's connection is compared, if it is
  abbrev pub time_in : Order → Option (Waiter S) → Option ℕ
  time_in order None = None
  time_in Until (Some waiter) = Some waiter.until
  time_in (Begun bytes) (Some waiter) =
      if nat_le bytes (vec_len waiter.bytes) then Some waiter.begun else None

  -- its time is this one or a later one, if it is compared
  abbrev pub IsNoSooner : Order → ℕ → Option (Waiter S) → Type 0
  IsNoSooner order time slot = ForSome (time_in order slot) (λ other. time ≤ other)

  -- of the slots below a bound it is the one with the least time, and if none is found, none is
  -- compared
  abbrev pub IsLeastBelow : Order → List (Option (Waiter S)) → ℕ → Option Found → Type 0
  IsLeastBelow order slots high None = AllWithin (λ slot. time_in order slot ≡ None) slots 0 high
  IsLeastBelow order slots high (Some found) = (found.key < high)
      × (time_in order (slice_index_or slots found.key None) ≡ Some found.time)
      × AllWithin (IsNoSooner order found.time) slots 0 high

  -- the same of all slots
  abbrev pub IsLeast : Order → List (Option (Waiter S)) → Option Found → Type 0
  IsLeast order slots found = IsLeastBelow order slots (length slots) found

-- the one of both with the lesser time
abbrev pub lesser_of : Option Found → ℕ → Option ℕ → Option Found
lesser_of first key None = first
lesser_of None key (Some time) = Some (record { key = key; time = time })
lesser_of (Some found) key (Some time) =
    if nat_le found.time time then Some found else Some (record { key = key; time = time })
