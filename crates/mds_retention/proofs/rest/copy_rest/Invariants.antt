use Rattle.std.proofs.Common.{◌-◌, ◌^◌, ◌≤◌, ◌++◌, ℕ, List, Option}
use Rattle.std.specs.List.{AllZip}
use Rattle.mds_core.specs.declared.request.Request.{Request}
use Rattle.mds_entries.specs.Entry.{Tells}
use Rattle.mds_groups.specs.Form.{texts_in}
use Rattle.mds_retention.specs.Copying.{AreTotalsOf}
use Rattle.mds_retention.specs.Draft.{IsDraftOf}
use Rattle.mds_retention.specs.Place.{IsPlaceOf}
use Rattle.mds_retention.specs.Telling.{Gives}
use Rattle.mds_retention.specs.Texts.{HasRead, IsReading}
use Rattle.mds_retention.proofs.rest.copy_rest.Given as goal

-- the texts so far told requests, which were counted, and the draft has them
abbrev pub invariant-lines : goal.invariant-lines
invariant-lines g l = record {
  reading : IsReading l.lines.texts;
  usable : g.D.Device.may_be_used l.draft.file;
  within : l.totals.kept ≤ l.totals.events;
  seen : (rest : List (List ℕ)) × (tail : List Request) × AllZip Tells rest tail
      × ((known : Option (List ℕ)) (lines : List (List ℕ)) (groups : List (List (List ℕ))) → IsPlaceOf lines groups l.fn.start.place → Gives known lines (g.R.Read.remaining l.fn.reader)
      → HasRead g.R.Read.remaining known l.lines.texts (texts_in groups ++ rest))
      × ((old new : List Request) → AreTotalsOf old new l.fn.start.totals → AreTotalsOf (old ++ tail) (new ++ tail) l.totals)
      × ((texts : List (List ℕ)) → IsDraftOf g.D.Device.seen g.D.Device.may_leave g.D.Device.is_true texts l.fn.draft
      → IsDraftOf g.D.Device.seen g.D.Device.may_leave g.D.Device.is_true (texts ++ rest) l.draft);
}

abbrev pub decreases-lines : goal.decreases-lines
decreases-lines g l = 2 ^ 64 - l.lines.texts.count
