use Rattle.std.proofs.Common.{◌≡◌, ◌+◌, replicate}
use Rattle.mds_book.specs.Seats.{new_seat, keeps_all}
use Rattle.mds_book.proofs.book.seats_of.Given as goal

-- the seats so far were told nothing, and a part of each ledger is left for every seat still to come
abbrev pub invariant-loop : goal.invariant-loop
invariant-loop g l = record {
  first : l.first.share.parts + l.counter ≡ l.count;
  second : l.second.share.parts + l.counter ≡ l.count;
  seats : l.seats.items ≡ replicate l.counter (new_seat (keeps_all l.keep));
}
