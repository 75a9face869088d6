use Rattle.std.proofs.Common.{◌≡◌, ℕ, List, length, take}
use Rattle.mds_compact.specs.Compaction.{kept_of}
use Rattle.mds_retention.specs.Draft.{IsDraftOf}
use Rattle.mds_retention.specs.Texts.{HasRead, IsReading}
use Rattle.mds_retention.proofs.copying.kept_lines.Given as goal

-- a text was read for each mark so far, and those were copied that the marks keep
abbrev pub invariant-loop-mark : goal.invariant-loop-mark
invariant-loop-mark g l = record {
  reading : IsReading l.lines;
  usable : g.D.Device.may_be_used l.draft.file;
  copied : (texts : List (List ℕ)) × HasRead g.R.Read.remaining (g.R.Read.remaining l.fn.reader) l.lines texts × (length texts ≡ l.mark-index)
      × IsDraftOf g.D.Device.seen g.D.Device.may_leave g.D.Device.is_true (kept_of (take l.mark-index l.marks) texts) l.draft;
}
