use Rattle.std.proofs.Common.{◌≡◌, ◌+◌, ◌≤◌, ◌++◌, length, vec_len, vec_capacity}
use Rattle.mds_book.specs.Retired.{AreRetired}
use Rattle.mds_book.specs.Sights.{rules_in}
use Rattle.mds_book.proofs.settling.retire_all.Given as goal

-- the seats so far were handed back beside both logs, and there is room for the rest
abbrev pub invariant-loop-seat : goal.invariant-loop-seat
invariant-loop-seat g l = record {
  slots : (l.first.slot ≡ l.fn.first.slot) × (l.second.slot ≡ l.fn.second.slot);
  logs : (l.first.log ≡ l.fn.first.log) × (l.second.log ≡ l.fn.second.log);
  items : l.room.items ++ l.seat-iterator.rest.items ≡ l.fn.seats.items;
  left : length l.seat-iterator.rest.items ≡ l.seat-iterator.rest.len;
  fits : vec_len l.room + l.seat-iterator.rest.len ≤ vec_capacity l.room;
  first_retired : AreRetired (rules_in g.L.NamedLedger.tables 0) l.first.log l.first.marks l.room.items;
  second_retired : AreRetired (rules_in g.M.NamedLedger.tables 1) l.second.log l.second.marks l.room.items;
}
