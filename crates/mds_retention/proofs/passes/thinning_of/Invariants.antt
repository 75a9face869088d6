use Rattle.std.proofs.Common.{◌≡◌, ◌++◌, ℕ, List, Some, length, take, drop}
use Rattle.mds_core.specs.declared.request.Request.{Request}
use Rattle.mds_compact.specs.Compaction.{kept_of}
use Rattle.mds_compact.specs.Passes.{IsSurveyOf, IsThinningOf}
use Rattle.mds_retention.specs.Lines.{HasTold}
use Rattle.mds_retention.specs.Telling.{BeginsWith}
use Rattle.mds_retention.specs.Texts.{IsReading}
use Rattle.mds_retention.proofs.passes.thinning_of.Given as goal

-- the lines so far told a history: where known bytes begin with a longer one it's the front, and what the cuts leave of the rest is still to come
abbrev pub invariant-loop-mark : goal.invariant-loop-mark
invariant-loop-mark g l = record {
  open_lines : IsReading l.lines.texts;
  seen : (old : List Request) × HasTold g.R.Read.remaining (g.R.Read.remaining l.fn.reader) l.lines old
      × (length old ≡ l.mark-index)
      × ((bytes : List ℕ) (history : List Request) → g.R.Read.remaining l.fn.reader ≡ Some bytes → BeginsWith bytes history → length l.stays ≡ length history
      → IsSurveyOf (kept_of l.stays history) l.fn.survey → (rest : List Request) × (history ≡ old ++ rest)
      × IsThinningOf l.from (kept_of (take l.mark-index l.stays) old) (kept_of (drop l.mark-index l.stays) rest) l.thinning);
}
