use Rattle.std.proofs.Common.{◌≡◌, ◌++◌, map, drop}
use Rattle.mds_table.specs.Row.{row_of}
use Rattle.mds_table.proofs.profile.add_rows.Given as goal

-- what is added so far, with what is left, is what is to be added
abbrev pub invariant-loop-state : goal.invariant-loop-state
invariant-loop-state l = l.rows.items ++ map (row_of l.from l.kind) (drop l.state-index l.to) ≡ l.initial.rows.items ++ map (row_of l.from l.kind) l.to
