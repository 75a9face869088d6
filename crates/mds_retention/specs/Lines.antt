-- What the lines of a journal told while their requests are read.
use Rattle.std.specs.Prelude.{List, ℕ, Option}
use Rattle.std.specs.List.{AllZip}
use Rattle.mds_core.specs.declared.request.Request.{Request}
use Rattle.mds_entries.specs.Entry.{Tells}
use Rattle.mds_retention.specs.declared.error.LinesError.{LinesError}
use Rattle.mds_retention.specs.declared.lines.RequestLines.{RequestLines}
use Rattle.mds_retention.specs.Telling.{IsJournalFault}
use Rattle.mds_retention.specs.Texts.{HasRead}

-- of a reader's bytes
module _ {R : Type 0} (remaining : R → Option (List ℕ)) where
  -- the lines so far told these requests
  abbrev pub HasTold : Option (List ℕ) → RequestLines R → List Request → Type 0
  HasTold known requests history =
      (texts : List (List ℕ)) × HasRead remaining known requests.texts texts
      × AllZip Tells texts history

  -- whatever requests they told, this is why no more are read
  abbrev pub StopsLines : RequestLines R → LinesError → Type 0
  StopsLines requests error =
      (known : Option (List ℕ)) (history : List Request)
      → HasTold known requests history → IsJournalFault known error
