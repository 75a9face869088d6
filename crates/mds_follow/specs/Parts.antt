-- What is recorded of each shard.
use Rattle.std.specs.Prelude.{◌≡◌, ℕ, List, Option, Some, None}
use mathlib.Core.List.{IsPrefix}
use Rattle.mds_core.specs.declared.key.Key.{Key}
use Rattle.mds_core.specs.declared.request.Request.{Request}
use Rattle.mds_core.specs.History.{requests_of}
use Rattle.mds_book.specs.Shards.{shard_of, part}
use Rattle.mds_book.specs.Seats.{Seated, seen_in}
use Rattle.mds_book.specs.Copying.{Progressed, copied_requests}

-- what is recorded of the shard of this number is what was copied of its history
abbrev pub Follows : ℕ → List Request → Progressed → Type 0
Follows number recorded progress = part number recorded ≡ copied_requests progress

-- what is recorded has all that a seat saw of each shard
pub record Covers (seat : Seated) (recorded : List Request) : Type 0 where
  pub first : IsPrefix seat.first_seen (part 0 recorded)
  pub second : IsPrefix seat.second_seen (part 1 recorded)

-- what is recorded has all that a seat saw of this vehicle
abbrev pub CoversVehicle : Key → Seated → List Request → Type 0
CoversVehicle key seat recorded =
    IsPrefix (requests_of (seen_in seat (shard_of key)) key) (requests_of recorded key)

-- what is recorded has all that a seat saw of a vehicle, or of every one
abbrev pub CoversAbout : Option Key → Seated → List Request → Type 0
CoversAbout (Some key) seat recorded = CoversVehicle key seat recorded
CoversAbout None seat recorded = Covers seat recorded
