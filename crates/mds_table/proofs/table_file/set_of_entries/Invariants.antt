use Rattle.std.proofs.Common.{List, map, take}
use Rattle.serde_json.specs.View.{view}
use Rattle.mds_table.specs.declared.row.Row.{Row}
use Rattle.mds_table.specs.TableFile.{AreGood}
use Rattle.mds_table.specs.RowSet.{AreSet}
use Rattle.mds_table.proofs.table_file.set_of_entries.Given as goal

-- the entries so far are good, and the set is of their rows
abbrev pub invariant-loop-at : goal.invariant-loop-at
invariant-loop-at l = (rows : List Row) × AreGood (take l.at (map view l.entries)) rows (map (λ m. m.kind) l.set.moves.items) × AreSet rows l.set
