-- A connection that is let go for its time.
use Rattle.std.specs.Prelude.{◌≡◌, ℕ, List, Option, None, slice_set}
use Rattle.mds_waiting.specs.declared.waiter.Waiter.{Waiter}
use Rattle.mds_waiting.specs.Waiting.{IsLate}

-- the connection has left whose time was over first, and it was over now
abbrev pub LeavesLate : {S : Type 0} → Option ℕ → List (Option (Waiter S))
    → List (Option (Waiter S)) → Type 0
LeavesLate now old new = (key : ℕ) × IsLate now old key × (new ≡ slice_set old key None)
