-- Why a journal can't be read on.
use Rattle.std.specs.Prelude.{ℕ, List, Option}
use Rattle.mds_retention.specs.declared.error.CompactError.{CompactError}
use Rattle.mds_retention.specs.declared.error.CompactError.TheVariants.{Old, New, NotThere}
use Rattle.mds_retention.specs.Telling.{IsJournalFault}

-- why a journal can't be read on: it has this fault by now; or the new one can't be written
abbrev pub IsEndFault : Option (List ℕ) → CompactError → Type 0
IsEndFault known (Old error) = IsJournalFault known error
IsEndFault known (New fault) = Unit {0}
IsEndFault known NotThere = ⊥
