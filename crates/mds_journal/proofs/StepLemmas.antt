-- A crash at any moment of a write that is synced.
use Rattle.std.proofs.Common.{ℕ, List}
use Rattle.mds_journal.specs.Device.{Torn, TornFrom, Follows, Elapses, LeavesOnly}
use Rattle.mds_journal.proofs.MomentLemmas.{started, goes_on, torn_none}

module _ {D : Type 0} (moment : D → ℕ) (left_since : D → ℕ → List ℕ → Type 0) (may_leave : D → List ℕ → Type 0) (at n : ℕ) where
  -- the write
  pub written_step : (old mid : D) → ((c : List ℕ) → left_since old (moment old) c → may_leave old c)
      → Elapses (moment old) (moment mid) (left_since old) (left_since mid) (may_leave mid)
      → Follows (Torn at n) (may_leave old) (may_leave mid) → LeavesOnly moment left_since old mid (TornFrom at n (may_leave old))
  written_step old mid only time crash =
      let P : List ℕ → Type 0 = TornFrom at n (may_leave old) in
      goes_on moment left_since old old mid P (may_leave mid) (started moment left_since old P (λ c left. (c, only c left, torn_none at n c))) time crash

  -- and the sync
  pub synced_step : (old mid new : D) → LeavesOnly moment left_since old mid (TornFrom at n (may_leave old))
      → Follows (Torn at n) (may_leave old) (may_leave mid)
      → Elapses (moment mid) (moment new) (left_since mid) (left_since new) (may_leave new)
      → ((c : List ℕ) → may_leave new c → may_leave mid c) → LeavesOnly moment left_since old new (TornFrom at n (may_leave old))
  synced_step old mid new leaves crash time kept =
      goes_on moment left_since old mid new (TornFrom at n (may_leave old)) (may_leave new) leaves time (λ c now. crash c (kept c now))
