-- The events of one vehicle in a replay.
use Rattle.std.specs.Prelude.{◌≡◌, ◌+◌, ℕ, List, length, count_by, Bool, false}
use Rattle.mds_core.specs.declared.key.Key.{Key}
use Rattle.mds_core.specs.Reported.{Reported}
use Rattle.mds_core.specs.History.{same_key}
use Rattle.mds_batch.specs.declared.item.EventItem.{EventItem}
use Rattle.mds_batch.specs.declared.item.EventItem.TheVariants.{Event, Fault}
use Rattle.mds_trace.specs.declared.report.Opening.TheVariants.{Removed}
use Rattle.mds_trace.specs.Replay.{accepted_of, prior_of}
use Rattle.mds_trace.specs.Replayer.{Replaying, Took}

-- an item is an event of a vehicle
abbrev pub is_event_of : Key → EventItem → Bool
is_event_of key (Event event) = same_key event.key key
is_event_of key (Fault fault) = false

-- how many of some items are events of a vehicle, accepted or not
abbrev pub told_of : Key → List EventItem → ℕ
told_of key items = count_by (is_event_of key) items

-- what contracts see of a replay that keeps the accepted events of one vehicle: these events, and
-- how many others of the vehicle were refused
pub record VehicleReplaying : Type 0 where
  pub replay : Replaying
  pub key : Key
  pub accepted : List Reported
  pub refused : ℕ

-- these are the items that it took, where each vehicle is registered first: it keeps the accepted
-- events of its vehicle, and each other event of the vehicle is counted
pub record TookOf (items : List EventItem) (seen : VehicleReplaying) : Type 0 where
  pub opening : seen.replay.opening ≡ Removed
  pub replayed : Took items seen.replay
  pub accepted : seen.accepted ≡ prior_of seen.key (accepted_of items seen.replay.lines)
  pub counted : length seen.accepted + seen.refused ≡ told_of seen.key items

-- since it was as before, it took these items; its tables and its vehicle stay
abbrev pub TookSince : VehicleReplaying → List EventItem → VehicleReplaying → Type 0
TookSince before items now =
    (now.replay.tables ≡ before.replay.tables) × (now.key ≡ before.key) × TookOf items now
