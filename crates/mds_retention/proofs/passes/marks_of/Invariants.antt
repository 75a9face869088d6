use Rattle.std.proofs.Common.{◌≡◌, ◌≤◌, ◌++◌, [], ℕ, List, Some, length}
use Rattle.mds_core.specs.declared.request.Request.{Request}
use Rattle.mds_compact.specs.Compaction.{kept_of}
use Rattle.mds_compact.specs.Passes.{IsThinningOf}
use Rattle.mds_retention.specs.Telling.{BeginsWith}
use Rattle.mds_retention.specs.Copying.{AreTotalsOf}
use Rattle.mds_retention.specs.Lines.{HasTold}
use Rattle.mds_retention.specs.Texts.{IsReading}
use Rattle.mds_retention.proofs.Left.{IsMarkedSo}
use Rattle.mds_retention.proofs.passes.marks_of.Given as goal

-- The lines so far told a history, which was marked and counted. Where known bytes begin with a longer one it's the front, and what the cuts leave of the rest is still to be marked.
abbrev pub invariant-loop-left : goal.invariant-loop-left
invariant-loop-left g l = record {
  open_lines : IsReading l.lines.texts;
  kept : l.totals.kept ≤ l.totals.events;
  seen : (old : List Request) × HasTold g.R.Read.remaining (g.R.Read.remaining l.fn.reader) l.lines old
      × (length old ≡ l.left-index) × (length l.marks.items ≡ length old) × AreTotalsOf old (kept_of l.marks.items old) l.totals
      × ((from : ℕ) (bytes : List ℕ) (history : List Request) → g.R.Read.remaining l.fn.reader ≡ Some bytes → BeginsWith bytes history → length l.stays ≡ length history
      → IsThinningOf from (kept_of l.stays history) [] l.fn.thinning → (rest : List Request) × (history ≡ old ++ rest)
      × IsMarkedSo from l.stays l.left-index old rest l.marks.items l.marking);
}
