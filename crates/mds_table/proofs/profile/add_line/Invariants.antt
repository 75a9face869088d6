use Rattle.std.proofs.Common.{◌≡◌, ◌++◌, drop}
use Rattle.mds_table.specs.Profile.{line, rows_of_line}
use Rattle.mds_table.proofs.profile.add_line.Given as goal

-- what is added so far, with what is left, is what is to be added
abbrev pub invariant-loop-state : goal.invariant-loop-state
invariant-loop-state l = l.rows.items ++ rows_of_line (line l.kind (drop l.state-index l.from) l.to) ≡ l.initial.rows.items ++ rows_of_line (line l.kind l.from l.to)
