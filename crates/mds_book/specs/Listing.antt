-- A list of a vehicle's events that begins.
use Rattle.std.specs.Prelude.{◌≡◌, ◌≤◌, ◌+◌, ℕ, List, [], length, Some}
use Rattle.mds_core.specs.declared.key.Key.{Key}
use Rattle.mds_core.specs.declared.request.Request.{Request}
use Rattle.mds_core.specs.Reported.{Reported}
use Rattle.mds_core.specs.History.{requests_of, reports}
use Rattle.mds_shard.specs.declared.walk.TheConstants.{MAX_STEPS}
use Rattle.mds_shard.specs.Walk.{IsWalkOf}
use Rattle.mds_book.specs.declared.listing.Listing.{Listing}

-- it begins at the vehicle's last request, with room for all its events and for a piece more
pub record IsBegun {E : Type 0} (events_of : E → List Reported) (room_of : E → ℕ)
    (history : List Request) (key : Key) (listing : Listing E) : Type 0 where
  pub walk : IsWalkOf history key (Some listing.last) []
  pub none : events_of listing.events ≡ []
  pub room : length (reports (requests_of history key)) + MAX_STEPS ≤ room_of listing.events
