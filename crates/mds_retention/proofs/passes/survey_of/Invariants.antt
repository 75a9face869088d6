use Rattle.std.proofs.Common.{◌≡◌, ◌-◌, ◌^◌, [], List, length}
use Rattle.mds_core.specs.declared.request.Request.{Request}
use Rattle.mds_compact.specs.Cutting.{IsCuttingOf}
use Rattle.mds_compact.specs.declared.cutting.Cut.{Cut}
use Rattle.mds_retention.specs.Copying.{IsSurveyed}
use Rattle.mds_retention.specs.Lines.{HasTold}
use Rattle.mds_retention.specs.Texts.{IsReading}
use Rattle.mds_retention.proofs.passes.survey_of.Given as goal

-- the lines so far told a history, and this is the survey of what the cuts leave of it
abbrev pub invariant-requests : goal.invariant-requests
invariant-requests g l = record {
  open_lines : IsReading l.lines.texts;
  seen : (history : List Request) × HasTold g.R.Read.remaining (g.R.Read.remaining l.fn.reader) l.lines history
      × (l.lines.texts.count ≡ length history) × (length l.surveyed.marks.items ≡ length history)
      × ((cuts : List Cut) → IsCuttingOf cuts [] [] l.fn.cutting → IsSurveyed cuts history l.surveyed);
}

abbrev pub decreases-requests : goal.decreases-requests
decreases-requests g l = 2 ^ 64 - l.lines.texts.count
