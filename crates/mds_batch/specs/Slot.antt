-- What is kept of the members of an item while it is read, and the members that it is kept of.
use Rattle.std.specs.Prelude.{Option, Some, None}
use Rattle.mds_batch.specs.declared.slot.Slot.{Slot}
use Rattle.mds_batch.specs.declared.slot.Slot.TheVariants.{Absent, Bad, Good}

-- what was found: nothing, something without the form, or something in that form
abbrev pub found_in : {A : Type 0} → Slot A → Option (Option A)
found_in Absent = None
found_in Bad = Some None
found_in (Good value) = Some (Some value)
