-- The lines of requests.
use Rattle.std.specs.Prelude.{◌≡◌, ℕ, List, [], ◌∷◌, Option, Some, None}
use Rattle.mds_core.specs.declared.request.Request.{Request}
use Rattle.mds_core.specs.declared.request.Request.TheVariants.{Register, Report, Look}
use Rattle.mds_batch.specs.Texts.{registration_text, event_text}
use Rattle.mds_batch.specs.declared.batch.BatchFault.{BatchFault}
use Rattle.mds_batch.specs.declared.batch.BatchFault.TheVariants as batch
use Rattle.mds_batch.specs.declared.item.EventItem.TheVariants as event
use Rattle.mds_batch.specs.declared.item.VehicleItem.TheVariants as vehicle
use Rattle.mds_batch.specs.declared.item.ItemFault.TheVariants.{Missing}
use Rattle.mds_batch.specs.declared.member.Member.TheVariants.{EventId}
use Rattle.mds_batch.specs.Items.{IsVehicleItem, IsEventItem}
use Rattle.mds_batch.specs.Batch.{HasItems, IsItemText}
use Rattle.mds_entries.specs.declared.entry.EntryFault.{EntryFault}
use Rattle.mds_entries.specs.declared.entry.EntryFault.TheVariants.{Memory, BadLine, NoLine}

-- the text of a request that changes something
abbrev pub line_of : Request → Option (List ℕ)
line_of (Register key) = Some (registration_text key)
line_of (Report reported) = Some (event_text reported)
line_of (Look key) = None

-- a line tells a request: it is an event, or it is none for want of its identifier, and a
-- registration
abbrev pub Tells : List ℕ → Request → Type 0
Tells line (Report reported) = IsItemText IsEventItem line (event.Event reported)
Tells line (Register key) =
    IsItemText IsEventItem line (event.Fault (Missing EventId))
    × HasItems IsVehicleItem line (vehicle.Vehicle key ∷ [])
Tells line (Look key) = ⊥

-- why a line gives no request: it tells none; want of memory says nothing of it
abbrev pub IsFaultOfLine : List ℕ → EntryFault → Type 0
IsFaultOfLine line BadLine = (request : Request) → Tells line request → ⊥
IsFaultOfLine line NoLine = ⊥
IsFaultOfLine line Memory = Unit {0}

-- why a request has no line: it is a look, or its text doesn't tell it; want of memory says nothing
-- of it
abbrev pub IsFaultOfRequest : Request → EntryFault → Type 0
IsFaultOfRequest request BadLine =
    (text : List ℕ) → line_of request ≡ Some text → Tells text request → ⊥
IsFaultOfRequest request NoLine = line_of request ≡ None
IsFaultOfRequest request Memory = Unit {0}

-- the fault of a line whose text could not be read
abbrev pub fault_of_text : BatchFault → EntryFault
fault_of_text batch.Memory = Memory
fault_of_text batch.TooLong = BadLine
fault_of_text batch.NotJson = BadLine
fault_of_text batch.NotList = BadLine
fault_of_text batch.TooMany = BadLine
