use Rattle.std.proofs.Common.{◌≡◌, None, option_map, take}
use Rattle.std.specs.List.{last_or}
use Rattle.mds_table.specs.Tables.{start_of}
use Rattle.mds_table.specs.Timed.{AreInTime}
use Rattle.mds_table.proofs.tables.Tables.new.Given as goal

-- the tables so far are in order of time, and the last of them starts at this time
abbrev pub invariant-loop-at : goal.invariant-loop-at
invariant-loop-at l = record {
  times : AreInTime (take l.at l.fn.entries.items);
  last : l.last ≡ option_map start_of (last_or None (take l.at l.fn.entries.items));
}
