-- What a command that compacts makes of a journal, and what a crash leaves of that.
use Rattle.std.specs.Prelude.{◌≡◌, ◌⊎◌, ℕ, List, [], length, Contains, Option, Some}
use Rattle.mds_core.specs.declared.request.Request.{Request}
use Rattle.mds_core.specs.History.{requests_of}
use Rattle.mds_compact.specs.declared.cutting.Cut.{Cut}
use Rattle.mds_journal.specs.Lines.{recovered_texts}
use Rattle.mds_retention.specs.declared.compacting.Readings.{Readings}
use Rattle.mds_retention.specs.declared.error.LinesError.{LinesError}
use Rattle.mds_retention.specs.declared.error.LinesError.TheVariants.{Memory}
use Rattle.mds_retention.specs.declared.error.CompactError.{CompactError}
use Rattle.mds_retention.specs.declared.error.CompactError.TheVariants.{Old, New, NotThere}
use Rattle.mds_retention.specs.declared.compacting.Compacted.{Compacted}
use Rattle.mds_retention.specs.Telling.{HasFront, IsTaken, IsJournalFault, IsAgainFault}
use Rattle.mds_retention.specs.Copying.{AreTotalsOf, IsCopyFault, IsCompactedJournal, cut_totals}

-- it's known what a reading gives, and the lines that count in these bytes come first in it
abbrev pub IsReadAgain : List ℕ → Option (List ℕ) → Type 0
IsReadAgain first known =
    (again : List ℕ) × (known ≡ Some again) × HasFront (Some again) (recovered_texts first)

-- the first reading of a journal gives these bytes, and since then lines were added at most
pub record AreReadings {R : Type 0} (remaining : R → Option (List ℕ)) (bytes : List ℕ)
    (old : Readings R) : Type 0 where
  pub first : remaining old.first ≡ Some bytes
  pub second : IsReadAgain bytes (remaining old.second)
  pub third : IsReadAgain bytes (remaining old.third)
  pub fourth : IsReadAgain bytes (remaining old.fourth)

-- a file stands under a name, and this holds of its bytes
abbrev pub StandsWhole : (List ℕ → Type 0) → Option (List ℕ) → Type 0
StandsWhole Is found = (out : List ℕ) × (found ≡ Some out) × Is out

-- the new journal is a compaction of what cuts leave of the old one, and these are their totals, and
-- those of the vehicles that the cuts name
abbrev pub IsCompactedTo : ℕ → List Cut → List ℕ → Compacted → List ℕ → Type 0
IsCompactedTo from cuts bytes compacted out =
    (made : IsCompactedJournal from cuts bytes out)
    × AreTotalsOf made.made.old made.made.new compacted.totals
    × (compacted.cuts.items ≡ cut_totals made.made.old cuts)

-- why so many marked lines can't be written: what tells them has this fault, or the new file
abbrev pub IsWriteFault : Option (List ℕ) → ℕ → CompactError → Type 0
IsWriteFault known count (Old error) = IsCopyFault count known error
IsWriteFault known count (New fault) = Unit {0}
IsWriteFault known count NotThere = ⊥

-- there is no new file, whatever the old one tells
abbrev pub IsOfNew : CompactError → Type 0
IsOfNew (Old error) = ⊥
IsOfNew (New fault) = Unit {0}
IsOfNew NotThere = ⊥

-- so many requests can't be read a second, a third or a fourth time for this
abbrev pub IsFaultAgain : {R : Type 0} → (R → Option (List ℕ)) → Readings R → ℕ → LinesError
    → Type 0
IsFaultAgain remaining old count error =
    IsAgainFault (remaining old.second) count error
    ⊎ (IsAgainFault (remaining old.third) count error
    ⊎ IsCopyFault count (remaining old.fourth) error)

-- a cut names a vehicle of which the history tells nothing
abbrev pub NamesNone : List Request → List Cut → Type 0
NamesNone history cuts =
    (cut : Cut) × Contains cuts cut × (requests_of history cut.key ≡ [])

-- why it can't be told how many events the vehicles have that cuts name
abbrev pub IsCutFault : List Request → List Cut → CompactError → Type 0
IsCutFault history cuts (Old error) = error ≡ Memory
IsCutFault history cuts (New fault) = ⊥
IsCutFault history cuts NotThere = NamesNone history cuts

-- why a journal isn't compacted: one of its readings has this fault, of those behind the first one
-- up to the last request that the first one told; or a cut names none of its vehicles
abbrev pub IsCompactFault : {R : Type 0} → (R → Option (List ℕ)) → Readings R → List Cut
    → CompactError → Type 0
IsCompactFault remaining old cuts (Old error) =
    IsJournalFault (remaining old.first) error
    ⊎ ((history : List Request) × IsTaken (remaining old.first) history
    × IsFaultAgain remaining old (length history) error)
IsCompactFault remaining old cuts (New fault) = Unit {0}
IsCompactFault remaining old cuts NotThere =
    (history : List Request) × IsTaken (remaining old.first) history × NamesNone history cuts
