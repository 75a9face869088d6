use Rattle.std.proofs.Common.{◌≡◌, take}
use Rattle.mds_http.specs.Found.{tables_of}
use Rattle.mds_face.proofs.desk.list_of_tables.Given as goal

-- the tables so far are listed
abbrev pub invariant-loop-at : goal.invariant-loop-at
invariant-loop-at l = tables_of l.list.items ≡ take l.at l.tables
