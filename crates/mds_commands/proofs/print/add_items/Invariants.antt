use Rattle.std.proofs.Common.{◌++◌, drop, string_bytes}
use Rattle.mds_io.specs.Page.{Passes}
use Rattle.mds_commands.specs.Text.{item_lines}
use Rattle.mds_commands.proofs.print.add_items.Given as goal

-- what is left waiting is the page, and the lines of the items that are left
abbrev pub invariant-loop-index : goal.invariant-loop-index
invariant-loop-index g l =
    Passes (g.W.Write.contents l.initial.writer) (g.W.Write.contents l.writer) (string_bytes l.initial.page ++ item_lines 0 l.lines)
    (string_bytes l.page ++ item_lines l.index (drop l.index l.lines))
