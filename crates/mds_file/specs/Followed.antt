-- What is known of a journal to which another process may add lines.
use Rattle.std.specs.Prelude.{◌≡◌, ℕ, ◌==◌, Bool, true, false, cond}
use Rattle.std.specs.Prelude.{List, [], ◌∷◌, ◌++◌, drop, slice_index, Option, Some, None}
use Rattle.mds_journal.specs.Lines.{recovered_texts}
use Rattle.mds_file.specs.Record.{Entry}

-- a reader gives what known bytes have from this one on
abbrev pub IsRest : ℕ → Option (List ℕ) → Option (List ℕ) → Type 0
IsRest from None remaining = Unit {0}
IsRest from (Some content) remaining = remaining ≡ Some (drop from content)

-- lines were added to known bytes at most
abbrev pub Grows : Option (List ℕ) → Option (List ℕ) → Type 0
Grows None new = Unit {0}
Grows (Some old) None = ⊥
Grows (Some old) (Some new) =
    (texts : List (List ℕ)) × (recovered_texts new ≡ recovered_texts old ++ texts)

-- a call that was made of a journal which another process may have
pub data FollowCall : Type 0 where
  -- its lock was asked for, and is had from then on, or isn't
  Lock : Bool → FollowCall
  -- it was looked at
  Look : FollowCall

-- of some calls, the newest first: the lock is had, so no other process has the journal
abbrev pub IsHeld : List FollowCall → Type 0
IsHeld [] = ⊥
IsHeld (Lock true ∷ earlier) = Unit {0}
IsHeld (Lock false ∷ earlier) = IsHeld earlier
IsHeld (Look ∷ earlier) = IsHeld earlier

-- it was had at the last look
abbrev pub WasHeld : List FollowCall → Type 0
WasHeld [] = ⊥
WasHeld (Lock had ∷ earlier) = WasHeld earlier
WasHeld (Look ∷ earlier) = IsHeld earlier

-- the call that some numbers stand for: which it is, and whether the lock is had
abbrev pub follow_call_of : List ℕ → FollowCall
follow_call_of numbers =
    cond (slice_index numbers 0 == 0) (Lock (slice_index numbers 1 == 1)) Look

-- the calls that a record holds
abbrev pub follow_calls_in : List Entry → List FollowCall
follow_calls_in [] = []
follow_calls_in (entry ∷ earlier) = follow_call_of entry.0 ∷ follow_calls_in earlier
