-- A replay by several workers: each goes over the events of its own vehicles, and what they tell is
-- put together.
use Rattle.std.specs.Prelude.{◌≡◌, ◌⊎◌, ◌<◌, ℕ, ◌%◌, ◌==◌, List, length, map}
use Rattle.std.specs.Prelude.{if◌then◌else◌, slice_get, Contains, Bool, true, false}
use Rattle.std.specs.Prelude.{Option, Some, None}
use Rattle.std.specs.List.{All, flat_map}
use Rattle.std.specs.Int.{from_be_bytes, w128}
use Rattle.mds_table.specs.Tables.{Tables}
use Rattle.mds_core.specs.declared.event_name.EventName.{EventName}
use Rattle.mds_core.specs.declared.key.Key.{Key}
use Rattle.mds_core.specs.Reported.{Reported}
use Rattle.mds_batch.specs.declared.item.EventItem.{EventItem}
use Rattle.mds_batch.specs.declared.item.EventItem.TheVariants.{Event, Fault as Faulty}
use Rattle.mds_batch.specs.declared.item.ItemFault.{ItemFault}
use Rattle.mds_batch.specs.declared.item.ItemFault.TheVariants.{NotObject}
use Rattle.mds_trace.specs.declared.report.Opening.{Opening}
use Rattle.mds_trace.specs.declared.report.VehicleEnd.{VehicleEnd}
use Rattle.mds_trace.specs.declared.report.Verdict.{Verdict}
use Rattle.mds_trace.specs.declared.report.Verdict.TheVariants.{Fault}
use Rattle.mds_trace.specs.declared.followed.Followed.{Followed}
use Rattle.mds_trace.specs.declared.part.ToldVerdict.{ToldVerdict}
use Rattle.mds_trace.specs.declared.part.Part.{Part}
use Rattle.mds_trace.specs.Replay.{accepted_of, IsEnd}
use Rattle.mds_trace.specs.Followed.{IsReplayed}

-- of so many workers, the one who goes over a vehicle's events: by the device identifier, as a
-- number
abbrev pub worker_of : ℕ → Key → ℕ
worker_of workers key = from_be_bytes w128 key.device % workers

-- an item is an event of a vehicle of this worker's
abbrev pub is_own : ℕ → ℕ → EventItem → Bool
is_own workers worker (Event event) = worker_of workers event.key == worker
is_own workers worker (Faulty fault) = false

-- an item as the worker sees it: any item that isn't its own is one fault like another
abbrev pub as_seen : ℕ → ℕ → EventItem → EventItem
as_seen workers worker item = if is_own workers worker item then item else Faulty NotObject

-- what is found of an item: its event, where it is of the worker's own, and nothing where it isn't
abbrev pub IsOwnEvent : ℕ → ℕ → EventItem → Option Reported → Type 0
IsOwnEvent workers worker item (Some event) =
    (item ≡ Event event) × (is_own workers worker item ≡ true)
IsOwnEvent workers worker item None = is_own workers worker item ≡ false

-- what is told stands at the place of an item of the worker's own, and is the verdict there
abbrev pub IsToldOf : ℕ → ℕ → List EventItem → List Verdict → ToldVerdict → Type 0
IsToldOf workers worker items lines one =
    ((item : EventItem)
    × (slice_get items one.index ≡ Some item) × (is_own workers worker item ≡ true))
    × (slice_get lines one.index ≡ Some one.verdict)

-- of these verdicts, those on the worker's own items are told, and no others
pub record AreTold (workers worker : ℕ) (items : List EventItem) (lines : List Verdict)
    (told : List ToldVerdict) : Type 0 where
  pub own : All (IsToldOf workers worker items lines) told
  pub every : (i : ℕ) (item : EventItem) (line : Verdict)
      → slice_get items i ≡ Some item
      → is_own workers worker item ≡ true → slice_get lines i ≡ Some line
      → Contains told (record { index = i; verdict = line })

-- a worker's share: the replay of the items as the worker sees them. It tells the verdicts on its
-- own items, and keeps of each vehicle what the replay keeps
pub record IsShare (opening : Opening) (tables : Tables) (items : List EventItem)
    (workers worker : ℕ) (told : List ToldVerdict) (entries : List (Key × Followed))
    (names : List EventName) : Type 0 where
  pub lines : List Verdict
  pub replayed : IsReplayed opening tables (map (as_seen workers worker) items) lines entries names
  pub are_told : AreTold workers worker items lines told

-- what a worker came to is its share
abbrev pub IsPart : Opening → Tables → List EventItem → ℕ → ℕ → Part → Type 0
IsPart opening tables items workers worker part =
    (names : List EventName)
    × IsShare opening tables items workers worker part.told.items part.vehicles.entries names

-- there is a part of each worker, in their order
abbrev pub AreParts : Opening → Tables → List EventItem → List Part → Type 0
AreParts opening tables items parts =
    (worker : ℕ) (part : Part)
    → slice_get parts worker ≡ Some part → IsPart opening tables items (length parts) worker part

-- what is told stands at its places, and all else is as it was
pub record ArePut (told : List ToldVerdict) (before after : List Verdict) : Type 0 where
  pub count : length after ≡ length before
  pub each : (i : ℕ) (line : Verdict)
      → slice_get after i ≡ Some line
      → Contains told (record { index = i; verdict = line })
      ⊎ ((slice_get before i ≡ Some line)
      × ((other : Verdict) → Contains told (record { index = i; verdict = other }) → ⊥))

-- all that the parts tell, one part behind the other
abbrev pub all_told : List Part → List ToldVerdict
all_told parts = flat_map (λ part. part.told.items) parts

-- the places of which the part tells are among so many
abbrev pub HasPlacesWithin : ℕ → Part → Type 0
HasPlacesWithin count part = All (λ one. one.index < count) part.told.items

-- before anything is told: a faulty item has its fault, and an event any fault
abbrev pub line_before : EventItem → Verdict
line_before (Event event) = Fault NotObject
line_before (Faulty fault) = Fault fault

-- the same by what is wrong with the item, if anything is
abbrev pub line_by : Option ItemFault → Verdict
line_by None = Fault NotObject
line_by (Some fault) = Fault fault

-- where the vehicle ends, in a replay of any items of which these are the parts
abbrev pub IsEndIn : Opening → List Part → Key → VehicleEnd → Type 0
IsEndIn opening parts key end =
    (tables : Tables) (items : List EventItem) (lines : List Verdict)
    → AreParts opening tables items parts → ArePut (all_told parts) (map line_before items) lines
    → IsEnd opening tables (accepted_of items lines) key end
