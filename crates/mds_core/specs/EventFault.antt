-- What is wrong with an event's types and time.
use Rattle.std.specs.Prelude.{◌≡◌, ℕ, ◌<◌, ◌≤◌, List, [], length, codes}
use Rattle.mds_table.specs.Json.{max_time}
use Rattle.mds_core.specs.Reported.{max_event_types}
use Rattle.mds_core.specs.declared.event.EventFault.{EventFault}
use Rattle.mds_core.specs.declared.event.EventFault.TheVariants.{NoTypes, TooManyTypes, BadTime}

-- the first fault: no type, too many types, or a time past the range
abbrev pub FaultOf : List (List ℕ) → ℕ → EventFault → Type 0
FaultOf types time NoTypes = types ≡ []
FaultOf types time TooManyTypes = max_event_types < length types
FaultOf types time BadTime =
    (1 ≤ length types) × (length types ≤ max_event_types) × (max_time < time)

-- the word for a fault
abbrev pub event_fault_text : EventFault → List ℕ
event_fault_text NoTypes = codes "no_types"
event_fault_text TooManyTypes = codes "too_many_types"
event_fault_text BadTime = codes "bad_time"
