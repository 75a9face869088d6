use Rattle.std.proofs.Common.{◌≡◌, ◌++◌, drop, string_bytes}
use Rattle.mds_metrics.specs.Text.{lines_text}
use Rattle.mds_metrics.proofs.line.add_lines.Given as goal

-- the lines so far, with those that are left, are all of them
abbrev pub invariant-loop-line : goal.invariant-loop-line
invariant-loop-line l =
    string_bytes l.text ++ lines_text (drop l.line-index l.lines) l.left ≡ string_bytes l.fn.text ++ lines_text l.lines l.values
