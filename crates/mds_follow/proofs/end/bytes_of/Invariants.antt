use Rattle.std.proofs.Common.{◌≡◌, length, take}
use Rattle.mds_journal.specs.Lines.{open_lines}
use Rattle.mds_follow.specs.Pieces.{texts_in}
use Rattle.mds_follow.proofs.end.bytes_of.Given as goal

-- those of the lines so far
abbrev pub invariant-loop-text : goal.invariant-loop-text
invariant-loop-text l = l.bytes ≡ length (open_lines (texts_in (take l.text-index l.texts)))
