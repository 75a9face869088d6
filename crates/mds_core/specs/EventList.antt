-- What is kept of events, and the events that it stands for.
use Rattle.std.specs.Prelude.{ℕ, ◌+◌, ◌*◌, ◌≤◌, List, length, take}
use Rattle.std.specs.Prelude.{drop, Vec, vec_len, vec_capacity}
use Rattle.std.specs.List.{All}
use Rattle.mds_core.specs.Reported.{Reported, max_event_types, MayBeReported}
use Rattle.mds_core.specs.declared.event_list.KeptEvent.{KeptEvent}

-- events in their order, and for how many further ones there is memory for certain
pub record ListedEvents : Type 0 where
  pub events : List Reported
  pub room : ℕ

-- the event of which this is kept, with these types
abbrev pub event_of : KeptEvent → List (List ℕ) → Reported
event_of kept types = record {
  key = kept.key;
  id = kept.id;
  state = kept.state;
  types = types;
  time = kept.time;
  position = kept.position;
}

-- its types, among these names
abbrev pub types_kept : List (List ℕ) → KeptEvent → List (List ℕ)
types_kept names kept = take kept.count (drop kept.first names)

-- the event of which this is kept, beside these names
abbrev pub event_in : List (List ℕ) → KeptEvent → Reported
event_in names kept = event_of kept (types_kept names kept)

-- its types lie within the names, and an event may have them and its time
pub record IsKept (names : List (List ℕ)) (kept : KeptEvent) : Type 0 where
  pub within : kept.first + kept.count ≤ length names
  pub reported : MayBeReported (types_kept names kept) kept.time

-- so it is with each, and there is memory for further events
pub record AreKept {A B : Type 0} (kept : Vec KeptEvent A) (names : Vec (List ℕ) B) (room : ℕ)
    : Type 0 where
  pub each : All (IsKept names.items) kept.items
  pub has_places : vec_len kept + room ≤ vec_capacity kept
  pub has_names : vec_len names + room * max_event_types ≤ vec_capacity names
