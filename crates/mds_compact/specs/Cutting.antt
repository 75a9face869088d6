-- What cuts leave of a history.
use Rattle.std.specs.Prelude.{◌≡◌, ℕ, ◌+◌, List, [], ◌∷◌, length, take, min, cond}
use Rattle.std.specs.Prelude.{Option, Some, None, Bool, option_map}
use Rattle.indexmap.specs.IndexMap.{get}
use Rattle.mds_core.specs.declared.key.Key.{Key}
use Rattle.mds_core.specs.declared.request.Request.{Request}
use Rattle.mds_core.specs.History.{requests_of, reports, same_key}
use Rattle.mds_compact.specs.Compaction.{kept_of}
use Rattle.mds_compact.specs.declared.cutting.Cut.{Cut}
use Rattle.mds_compact.specs.declared.cutting.Front.{Front}
use Rattle.mds_compact.specs.declared.cutting.Cutting.{Cutting}

-- the lesser of a number and another one, if there is another
abbrev pub least_of : Option ℕ → ℕ → ℕ
least_of None count = count
least_of (Some other) count = min other count

-- how many events of a vehicle stay at most: as few as any cut of it says, and all where none is
abbrev pub most_events : List Cut → Key → Option ℕ
most_events [] key = None
most_events (cut ∷ cuts) key =
    cond (same_key cut.key key) (Some (least_of (most_events cuts key) cut.events))
    (most_events cuts key)

-- of a vehicle's requests its registration and so many of its first events
abbrev pub front_of : Option ℕ → List Request → List Request
front_of None requests = requests
front_of (Some count) requests = take (1 + count) requests

-- of each vehicle's requests those are left that the cuts leave
abbrev pub IsCutBy : List Cut → List Request → List Request → Type 0
IsCutBy cuts old new =
    (key : Key) → requests_of new key ≡ front_of (most_events cuts key) (requests_of old key)

-- how many events a vehicle with these requests has, if there are any about it
abbrev pub events_in : List Request → Option ℕ
events_in [] = None
events_in (request ∷ requests) = Some (length (reports (request ∷ requests)))

-- what is kept of a vehicle of which so many events stay, behind these requests about it
abbrev pub front_at : List Request → ℕ → Front
front_at requests most =
    record { most = most; requests = length requests; events = length (reports requests) }

-- the pass by these cuts has told these marks of the requests `old`
pub record IsCuttingOf (cuts : List Cut) (old : List Request) (marks : List Bool)
    (cutting : Cutting) : Type 0 where
  pub count : length marks ≡ length old
  pub fronts : (key : Key) → get same_key cutting.fronts key
      ≡ option_map (front_at (requests_of old key)) (most_events cuts key)
  pub left : IsCutBy cuts old (kept_of marks old)
