-- What a new journal has of one to which lines are added meanwhile.
use Rattle.std.specs.Prelude.{◌≡◌, ◌⊎◌, ◌≤◌, ℕ, List, [], ◌++◌, length, Bool, Option, Some}
use Rattle.std.specs.List.{AllZip}
use Rattle.mds_table.specs.Tables.{Tables}
use Rattle.mds_core.specs.declared.request.Request.{Request}
use Rattle.mds_core.specs.Lawful.{IsLawful}
use Rattle.mds_compact.specs.Compaction.{kept_of}
use Rattle.mds_compact.specs.Cutting.{IsCutBy}
use Rattle.mds_entries.specs.Entry.{Tells}
use Rattle.mds_file.specs.Followed.{Grows}
use Rattle.mds_groups.specs.Form.{texts_in}
use Rattle.mds_retention.specs.declared.compacting.Readings.{Readings}
use Rattle.mds_retention.specs.declared.error.CompactError.{CompactError}
use Rattle.mds_retention.specs.declared.error.CompactError.TheVariants.{Old, New, NotThere}
use Rattle.mds_retention.specs.declared.new_journal.NewJournal.{NewJournal}
use Rattle.mds_retention.specs.declared.passes.Totals.{Totals}
use Rattle.mds_retention.specs.declared.rest.Reached.{Reached}
use Rattle.mds_retention.specs.Compacting.{AreReadings, IsCompactFault}
use Rattle.mds_retention.specs.Copying.{AreTotalsOf, IsCompactionOf, IsMarkedBy}
use Rattle.mds_retention.specs.Draft.{IsDraft, IsDraftOf}
use Rattle.mds_retention.specs.Place.{IsPlaceOf, IsTakenTo}
use Rattle.mds_retention.specs.Rest.{IsEndFault}
use Rattle.mds_retention.specs.Telling.{IsFileOf, IsTaken, IsJournalFault, IsAgainFault}

-- the first lines of a journal are those of these bytes; by these marks they are compacted, and so
-- far they reach
pub record IsFirstOf (from : ℕ) (bytes : List ℕ) (marks : List Bool) (reached : Reached) : Type 0
  where
    pub history : List Request
    pub cut : List Request
    pub taken : IsTakenTo (Some bytes) history reached.place
    pub uncut : IsCutBy [] history cut
    pub marked : IsMarkedBy from cut history marks
    pub totals : AreTotalsOf history (kept_of marks history) reached.totals

-- a journal had the bytes `first`, and has `last` since lines were added: of the texts from before
-- some tell a compaction, and the rest came since
pub record IsGoneOn (from : ℕ) (first last : List ℕ) : Type 0 where
  pub kept : List (List ℕ)
  pub made : IsCompactionOf from [] first kept
  pub rest : List (List ℕ)
  pub tail : List Request
  pub told : AllZip Tells rest tail
  pub before : IsTaken (Some last) (made.old ++ tail)
  pub all : texts_in before.groups ≡ texts_in made.before.groups ++ rest
  -- where what it tells by now is lawful, so is the compaction with what came since
  pub lawful : (tables : Tables) → IsLawful tables (made.old ++ tail)
      → IsLawful tables (made.new ++ tail)

-- the new one is a journal of version 2 with these texts, as they stand, and no more
pub record IsFollowed (from : ℕ) (first last out : List ℕ) : Type 0 where
  pub on : IsGoneOn from first last
  pub file : IsFileOf (on.kept ++ on.rest) out
  pub after : IsTaken (Some out) (on.made.new ++ on.tail)

-- so far what it tells reaches, and these are the totals
abbrev pub AreTotalsOn : {from : ℕ} → {first last : List ℕ} → IsGoneOn from first last → Totals
    → Type 0
AreTotalsOn on totals = AreTotalsOf (on.made.old ++ on.tail) (on.made.new ++ on.tail) totals

-- so it is, and these are the totals
abbrev pub IsFollowedTo : ℕ → List ℕ → List ℕ → Totals → List ℕ → Type 0
IsFollowedTo from first last totals out =
    (followed : IsFollowed from first last out) × AreTotalsOn followed.on totals

-- it's known what the journal has by now, and that begins with what these bytes had
abbrev pub HasSince : List ℕ → Option (List ℕ) → Type 0
HasSince first known = (last : List ℕ) × (known ≡ Some last) × Grows (Some first) (Some last)

-- of a device: the bytes that a read returns, what a crash may leave, and whether all answers so
-- far were those of a disk that keeps what it is given
module _ {D : Type 0} (seen : D → List ℕ) (may_leave : D → List ℕ → Type 0)
    (is_true : D → Type 0) where
  -- lines may be added to what a new journal has
  pub record MayBeEnded (may_be_used : D → Type 0) (journal : NewJournal D) : Type 0 where
    pub usable : may_be_used journal.draft.file
    pub draft : IsDraft seen may_leave is_true journal.draft
    pub within : journal.reached.totals.kept ≤ journal.reached.totals.events

  -- a new journal has all that it is to have of one with the bytes `first`, which by now are known
  abbrev pub IsNewJournal : ℕ → List ℕ → Option (List ℕ) → NewJournal D → Type 0
  IsNewJournal from first known journal =
      (last : List ℕ) × (known ≡ Some last) × (on : IsGoneOn from first last)
      × IsPlaceOf on.before.lines on.before.groups journal.reached.place
      × AreTotalsOn on journal.reached.totals
      × IsDraftOf seen may_leave is_true (on.kept ++ on.rest) journal.draft

-- why it can't be told which requests of a journal stay: one of its three readings has this fault, of
-- those behind the first one up to the last request that the first one told
abbrev pub IsMarksFault : Option (List ℕ) → Option (List ℕ) → Option (List ℕ) → CompactError
    → Type 0
IsMarksFault first second third (Old error) =
    IsJournalFault first error
    ⊎ ((history : List Request) × IsTaken first history
    × (IsAgainFault second (length history) error ⊎ IsAgainFault third (length history) error))
IsMarksFault first second third (New fault) = ⊥
IsMarksFault first second third NotThere = ⊥

-- why a new journal can't be begun: one of the readings has this fault; or what the journal has by
-- now
abbrev pub IsBeginFault : {R : Type 0} → (R → Option (List ℕ)) → Readings R → Option (List ℕ)
    → Option (List ℕ) → CompactError → Type 0
IsBeginFault remaining old was known error =
    IsCompactFault remaining old [] error
    ⊎ ((first : List ℕ) → AreReadings remaining first old → HasSince first was
    → IsEndFault known error)
