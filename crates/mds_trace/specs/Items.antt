-- The events of a file's items, and the vehicles that they mention.
use Rattle.std.specs.Prelude.{List, [], ◌∷◌, filter, not, Option, Some, None}
use Rattle.std.specs.List.{filter_map}
use Rattle.mds_core.specs.declared.key.Key.{Key}
use Rattle.mds_core.specs.Reported.{Reported}
use Rattle.mds_core.specs.History.{same_key}
use Rattle.mds_batch.specs.declared.item.EventItem.{EventItem}
use Rattle.mds_batch.specs.declared.item.EventItem.TheVariants.{Event, Fault}

-- the event that an item reports, if it isn't faulty
abbrev pub event_of : EventItem → Option Reported
event_of (Event event) = Some event
event_of (Fault fault) = None

-- the events that items report, in their order
abbrev pub events_of : List EventItem → List Reported
events_of items = filter_map event_of items

-- the vehicles that events mention, each once, in the order of their first mention
abbrev pub vehicles_of : List Reported → List Key
vehicles_of [] = []
vehicles_of (event ∷ events) =
    event.key ∷ filter (λ key. not (same_key key event.key)) (vehicles_of events)
