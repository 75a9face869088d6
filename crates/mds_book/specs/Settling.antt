-- What settling a book tells.
use Rattle.std.specs.Prelude.{ℕ, zero, suc, List, All}
use mathlib.Core.List.{IsPrefix}
use Rattle.mds_core.specs.declared.request.Request.{Request}
use Rattle.mds_settle.specs.Settled.{IsSettled}
use Rattle.mds_settle.specs.Faults.{IsLeastFault}
use Rattle.mds_book.specs.Seats.{Seated}
use Rattle.mds_book.specs.Gathering.{Collected}

-- the seats' notes fit the history of the shard of this number
abbrev pub AreFitting : Collected → ℕ → List Request → Type 0
AreFitting all shard history =
    IsSettled all.tables shard history (λ (seat : Seated). seat.notes) all.seats

-- this is the least place of the shard of this number at which the seats' notes don't fit its
-- history
abbrev pub IsTornAt : Collected → ℕ → List Request → ℕ → Type 0
IsTornAt all shard history place =
    IsLeastFault all.tables shard history (λ (seat : Seated). seat.notes) all.seats place

-- the notes fit both histories
pub record IsSettledBook (all : Collected) : Type 0 where
  pub first : AreFitting all 0 all.first
  pub second : AreFitting all 1 all.second

-- what each seat saw while the book was in use is a beginning of what the shards hold
pub record AreBeginnings (all : Collected) : Type 0 where
  pub first : All (λ seat. IsPrefix seat.first_seen all.first) all.seats
  pub second : All (λ seat. IsPrefix seat.second_seen all.second) all.seats

-- this is the least shard whose history the notes don't fit, and its least place
abbrev pub IsTorn : Collected → ℕ → ℕ → Type 0
IsTorn all zero place = IsTornAt all 0 all.first place
IsTorn all (suc zero) place = AreFitting all 0 all.first × IsTornAt all 1 all.second place
-- there are no more shards
IsTorn all shard place = ⊥
