-- What the lines of a journal tell of one vehicle.
use Rattle.std.specs.Prelude.{◌≡◌, ◌≢◌, ℕ, List, [], ◌∷◌, ◌++◌, map, Bool, false, Option, MatchBool}
use Rattle.std.specs.List.{flat_map}
use Rattle.mds_core.specs.declared.key.Key.{Key}
use Rattle.mds_core.specs.declared.request.Request.{Request}
use Rattle.mds_core.specs.declared.request.Request.TheVariants.{Register, Report, Look}
use Rattle.mds_core.specs.History.{same_key, requests_of}
use Rattle.mds_compact.specs.Compaction.{kept_of}
use Rattle.mds_groups.specs.Form.{texts_in}
use Rattle.mds_retention.specs.declared.vehicle_events.VehicleEvents.{VehicleEvents}
use Rattle.mds_retention.specs.Telling.{IsTaken}

-- whether a request reports an event of the vehicle
abbrev pub is_event_of : Key → Request → Bool
is_event_of key (Register other) = false
is_event_of key (Report event) = same_key event.key key
is_event_of key (Look other) = false

-- of lines with these texts, which tell these requests, the texts of those that tell an event of
-- the vehicle, each with a line feed
abbrev pub event_lines : Key → List Request → List (List ℕ) → List ℕ
event_lines key history texts =
    flat_map (λ text. text ++ 10 ∷ []) (kept_of (map (is_event_of key) history) texts)

-- what is kept of lines with these texts, which tell these requests: whether one of them is about
-- the vehicle, and the lines of its events
pub record AreEventsOf (key : Key) (history : List Request) (texts : List (List ℕ))
    (events : VehicleEvents) : Type 0 where
  pub vehicle : events.key ≡ key
  pub there : MatchBool events.is_there (requests_of history key ≢ []) (requests_of history key ≡ [])
  pub lines : events.lines.items ≡ event_lines key history texts

-- the lines that count are the form's, and others that tell requests, some of them about the
-- vehicle; and these are the lines of its events
abbrev pub HasEvents : Key → Option (List ℕ) → List ℕ → Type 0
HasEvents key known lines =
    (history : List Request) × (taken : IsTaken known history)
    × (requests_of history key ≢ []) × (lines ≡ event_lines key history (texts_in taken.groups))

-- they are the form's, and others that tell requests, none of them about the vehicle
abbrev pub HasNothingOf : Key → Option (List ℕ) → Type 0
HasNothingOf key known =
    (history : List Request) × IsTaken known history × (requests_of history key ≡ [])
