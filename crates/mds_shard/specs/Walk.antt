-- A walk over a vehicle's requests, from the last one back to the first, by what a shard keeps
-- beside its history.
use Rattle.std.specs.Prelude.{◌≡◌, ℕ, ◌+◌, ◌≤◌, ◌++◌, List, [], length}
use Rattle.std.specs.Prelude.{take, reverse, Option, Some, None}
use Rattle.mds_core.specs.declared.key.Key.{Key}
use Rattle.mds_core.specs.declared.request.Request.{Request}
use Rattle.mds_core.specs.Reported.{Reported}
use Rattle.mds_core.specs.History.{requests_of, reports}
use Rattle.mds_shard.specs.declared.walk.WalkStart.{WalkStart}
use Rattle.mds_shard.specs.Replay.{IsLastPlace, IsLastPlaceIf}

-- how many steps the walk has left, at most
abbrev pub steps_left : Option ℕ → ℕ
steps_left None = 0
steps_left (Some place) = place + 1

-- of one vehicle, the events before the end, and then those found
abbrev pub HasFound : List Request → Key → ℕ → Option ℕ → List Reported → Type 0
HasFound history key end at found =
    IsLastPlaceIf (take end history) key at
    × (reports (requests_of (take end history) key) ++ reverse found
    ≡ reports (requests_of history key))

-- where the walk stands: before an end, with what it has found behind it, whichever vehicle it goes
-- along
pub record IsWalk (history : List Request) (last : ℕ) (at : Option ℕ) (found : List Reported)
    : Type 0 where
  pub end : ℕ
  pub within : end ≤ length history
  pub before_end : steps_left at ≤ end
  pub finds : (key : Key) → IsLastPlace history key last → HasFound history key end at found

-- the same along this vehicle, from its last request on
pub record IsWalkOf (history : List Request) (key : Key) (at : Option ℕ) (found : List Reported)
    : Type 0 where
  pub last : ℕ
  pub from : IsLastPlace history key last
  pub walk : IsWalk history last at found

-- where a walk over this vehicle's requests begins, and how many events it finds
pub record IsStart (history : List Request) (key : Key) (start : WalkStart) : Type 0 where
  pub walk : IsWalkOf history key (Some start.last) []
  pub events : start.events ≡ length (reports (requests_of history key))
