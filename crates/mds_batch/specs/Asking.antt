-- What an item of a batch asks for, or what is wrong with it.
use Rattle.std.specs.Prelude.{Option, Some, None}
use Rattle.mds_core.specs.declared.key.Key.{Key}
use Rattle.mds_core.specs.declared.request.Request.{Request}
use Rattle.mds_core.specs.declared.request.Request.TheVariants.{Register, Report}
use Rattle.mds_batch.specs.declared.item.ItemFault.{ItemFault}
use Rattle.mds_batch.specs.declared.item.VehicleItem.{VehicleItem}
use Rattle.mds_batch.specs.declared.item.VehicleItem.TheVariants as vehicle
use Rattle.mds_batch.specs.declared.item.EventItem.{EventItem}
use Rattle.mds_batch.specs.declared.item.EventItem.TheVariants as event
use Rattle.mds_batch.specs.declared.kept.KeptItem.{KeptItem}
use Rattle.mds_batch.specs.declared.kept.KeptItem.TheVariants as kept

-- a vehicle asks for its registration, a fault for nothing
abbrev pub registration_of : VehicleItem → Option Request
registration_of (vehicle.Vehicle key) = Some (Register key)
registration_of (vehicle.Fault fault) = None

-- an event asks to be reported, a fault for nothing
abbrev pub report_in : EventItem → Option Request
report_in (event.Event reported) = Some (Report reported)
report_in (event.Fault fault) = None

-- the vehicle of an item that is an event
abbrev pub vehicle_in : EventItem → Option Key
vehicle_in (event.Event reported) = Some reported.key
vehicle_in (event.Fault fault) = None

-- what is wrong with an item of a batch of registrations, if anything is
abbrev pub vehicle_fault : VehicleItem → Option ItemFault
vehicle_fault (vehicle.Vehicle key) = None
vehicle_fault (vehicle.Fault fault) = Some fault

-- what is wrong with an item of a batch of events, if anything is
abbrev pub event_fault : EventItem → Option ItemFault
event_fault (event.Event reported) = None
event_fault (event.Fault fault) = Some fault

-- what is wrong with an item of which this is kept, if anything is
abbrev pub kept_fault : KeptItem → Option ItemFault
kept_fault (kept.Event event) = None
kept_fault (kept.Fault fault) = Some fault
