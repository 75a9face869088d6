use Rattle.std.proofs.Common.{◌≡◌, length, take}
use Rattle.std.specs.List.{AllZip}
use Rattle.mds_entries.specs.Entry.{Tells}
use Rattle.mds_follow.specs.Pieces.{texts_in}
use Rattle.mds_follow.proofs.piece.Portion.read.Given as goal

-- there is a place for each line, and the lines so far tell the requests so far
abbrev pub invariant-loop-at : goal.invariant-loop-at
invariant-loop-at l = record {
  count : length l.self.requests.items ≡ length l.lines;
  read : AllZip Tells (texts_in (take l.at l.lines)) (take l.at l.self.requests.items);
}
