use Rattle.std.proofs.Common.{map, take}
use Rattle.mds_check.specs.Form.{HasTaken}
use Rattle.mds_check.proofs.group.is_checked.Given as goal

abbrev pub invariant-loop-line : goal.invariant-loop-line
invariant-loop-line l = HasTaken l.check (map (λ line. line.items) (take l.line-index l.lines))
