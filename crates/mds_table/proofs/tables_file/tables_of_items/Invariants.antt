use Rattle.std.proofs.Common.{◌≡◌, None, option_map, map, take}
use Rattle.std.specs.List.{AllZip, last_or}
use Rattle.serde_json.specs.View.{view}
use Rattle.mds_table.specs.Tables.{start_of}
use Rattle.mds_table.specs.Timed.{AreInTime}
use Rattle.mds_table.specs.TimedFile.{IsTableItem}
use Rattle.mds_table.proofs.tables_file.tables_of_items.Given as goal

-- the tables so far are those of the items so far, in order of time, and the last of them starts at this time
abbrev pub invariant-loop-at : goal.invariant-loop-at
invariant-loop-at l = record {
  times : AreInTime l.entries.items;
  each : AllZip IsTableItem (take l.at (map view l.items)) l.entries.items;
  last : l.last ≡ option_map start_of (last_or None l.entries.items);
}
