-- What stays of a journal, and what a shorter one tells.
use Rattle.std.specs.Prelude.{◌≡◌, ℕ, ◌+◌, List, length, map, Bool, Option, Some}
use Rattle.std.specs.List.{AllZip}
use Rattle.mds_table.specs.Tables.{Tables}
use Rattle.mds_core.specs.declared.request.Request.{Request}
use Rattle.mds_core.specs.History.{requests_of, reports}
use Rattle.mds_core.specs.Lawful.{IsLawful}
use Rattle.mds_compact.specs.Compaction.{kept_of, IsCompaction, IsThin}
use Rattle.mds_compact.specs.Cutting.{IsCutBy, IsCuttingOf}
use Rattle.mds_compact.specs.Passes.{IsSurveyOf}
use Rattle.mds_compact.specs.declared.cutting.Cut.{Cut}
use Rattle.mds_entries.specs.Entry.{Tells}
use Rattle.mds_groups.specs.Form.{texts_in}
use Rattle.mds_groups.specs.declared.fault.GroupFault.TheVariants.{Damaged, Journal}
use Rattle.mds_journal.specs.declared.fault.JournalFault.TheVariants.{Form, TooLong}
use Rattle.mds_retention.specs.declared.error.LinesError.{LinesError}
use Rattle.mds_retention.specs.declared.error.LinesError.TheVariants.{Memory, Read, Fault, Changed}
use Rattle.mds_retention.specs.declared.compacting.CutTotals.{CutTotals}
use Rattle.mds_retention.specs.declared.passes.Surveyed.{Surveyed}
use Rattle.mds_retention.specs.declared.passes.Totals.{Totals}
use Rattle.mds_retention.specs.Telling.{HasFewer, HasLongBehind, HasOtherForm, HasTexts}
use Rattle.mds_retention.specs.Telling.{IsDamaged, IsFileOf, IsTaken}

-- the pass by these cuts took this history, and what it leaves of it was surveyed
pub record IsSurveyed (cuts : List Cut) (history : List Request) (surveyed : Surveyed)
    : Type 0 where
  pub cutting : IsCuttingOf cuts history surveyed.marks.items surveyed.cutting
  pub survey : IsSurveyOf (kept_of surveyed.marks.items history) surveyed.survey

-- by these marks that is compacted which cuts leave of a history, and enough is gone where it's
-- lawful
pub record IsMarkedBy (from : ℕ) (cut history : List Request) (marks : List Bool) : Type 0 where
  pub count : length marks ≡ length history
  pub compaction : IsCompaction from cut (kept_of marks history)
  pub thin : (tables : Tables) → IsLawful tables cut → IsThin from cut (kept_of marks history)

-- of each cut, how many events its vehicle has
abbrev pub cut_totals : List Request → List Cut → List CutTotals
cut_totals history cuts =
    map (λ cut. record {
      cut = cut;
      events = length (reports (requests_of history cut.key));
    }) cuts

-- how many of the requests `old` report events and how many don't, and how many of those that stay,
-- which are `new`, do
pub record AreTotalsOf (old new : List Request) (totals : Totals) : Type 0 where
  pub events : totals.events ≡ length (reports old)
  pub all : totals.registrations + totals.events ≡ length old
  pub kept : totals.kept ≡ length (reports new)

-- these texts are those that marks keep of the first texts of a journal
abbrev pub HasKept : Option (List ℕ) → List Bool → List (List ℕ) → Type 0
HasKept known marks kept =
    (texts : List (List ℕ)) × HasTexts known texts
    × (length texts ≡ length marks) × (kept ≡ kept_of marks texts)

-- the bytes are those of a journal with these texts
abbrev pub HasKeptIn : Option (List ℕ) → List Bool → List ℕ → Type 0
HasKeptIn known marks out =
    (kept : List (List ℕ)) × HasKept known marks kept × IsFileOf kept out

-- why so many marked texts of a file can't be copied
abbrev pub IsCopyFault : ℕ → Option (List ℕ) → LinesError → Type 0
IsCopyFault count known Memory = Unit {0}
IsCopyFault count known Read = Unit {0}
IsCopyFault count known (Fault (Damaged line)) =
    (texts : List (List ℕ)) × IsDamaged known texts line
IsCopyFault count known (Fault (Journal Form)) = HasOtherForm known
IsCopyFault count known (Fault (Journal (TooLong line))) =
    (texts : List (List ℕ)) × HasLongBehind known texts line
IsCopyFault count known (Fault (Journal other)) = ⊥
IsCopyFault count known Changed = HasFewer known count

-- these texts of a journal tell a compaction of what cuts leave of what all its lines tell, and
-- stand there as they stand in it
pub record IsCompactionOf (from : ℕ) (cuts : List Cut) (bytes : List ℕ) (kept : List (List ℕ))
    : Type 0 where
  pub old : List Request
  pub cut : List Request
  pub new : List Request
  pub before : IsTaken (Some bytes) old
  pub told : AllZip Tells kept new
  pub marks : List Bool
  pub count : length marks ≡ length old
  pub copied : kept ≡ kept_of marks (texts_in before.groups)
  pub stays : new ≡ kept_of marks old
  pub front : IsCutBy cuts old cut
  pub compaction : IsCompaction from cut new
  pub thin : (tables : Tables) → IsLawful tables cut → IsThin from cut new

-- a journal of version 2 has these texts, and no more
pub record IsCompactedJournal (from : ℕ) (cuts : List Cut) (bytes out : List ℕ) : Type 0 where
  pub kept : List (List ℕ)
  pub made : IsCompactionOf from cuts bytes kept
  pub file : IsFileOf kept out
  pub after : IsTaken (Some out) made.new
