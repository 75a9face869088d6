-- What is kept of the items of a batch of events, and the items that it stands for.
use Rattle.std.specs.Prelude.{ℕ, ◌+◌, ◌≤◌, List, length, take, drop}
use Rattle.mds_core.specs.Reported.{MayBeReported}
use Rattle.mds_batch.specs.Told.{reported_by}
use Rattle.mds_batch.specs.declared.item.EventItem.{EventItem}
use Rattle.mds_batch.specs.declared.item.EventItem.TheVariants.{Event, Fault}
use Rattle.mds_batch.specs.declared.kept.KeptEvent.{KeptEvent}
use Rattle.mds_batch.specs.declared.kept.KeptItem.{KeptItem}
use Rattle.mds_batch.specs.declared.kept.KeptItem.TheVariants as kept

-- the types of an event, among these names
abbrev pub types_at : List (List ℕ) → KeptEvent → List (List ℕ)
types_at names event = take event.count (drop event.first names)

-- the item of which this is kept, beside these names
abbrev pub item_in : List (List ℕ) → KeptItem → EventItem
item_in names (kept.Event event) = Event (reported_by event.told (types_at names event))
item_in names (kept.Fault fault) = Fault fault

-- the types of an event lie within the names, and an event may have them and its time
pub record IsKeptEvent (names : List (List ℕ)) (event : KeptEvent) : Type 0 where
  pub within : event.first + event.count ≤ length names
  pub reported : MayBeReported (types_at names event) event.told.time

-- the same of an item that is an event
abbrev pub IsKept : List (List ℕ) → KeptItem → Type 0
IsKept names (kept.Event event) = IsKeptEvent names event
IsKept names (kept.Fault fault) = Unit {0}
