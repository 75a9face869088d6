use Rattle.std.proofs.Common.{◌++◌, drop, string_bytes}
use Rattle.mds_io.specs.Page.{Passes}
use Rattle.mds_city.specs.CompactText.{cut_lines}
use Rattle.mds_city.proofs.compacted.add_cuts.Given as goal

-- what is left waiting is the page, and the lines of the cuts that are left
abbrev pub invariant-loop-cut : goal.invariant-loop-cut
invariant-loop-cut g l =
    Passes (g.W.Write.contents l.initial.writer) (g.W.Write.contents l.writer) (string_bytes l.initial.page ++ cut_lines l.cuts) (string_bytes l.page ++ cut_lines (drop l.cut-index l.cuts))
