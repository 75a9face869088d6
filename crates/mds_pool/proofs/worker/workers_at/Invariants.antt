use Rattle.std.proofs.Common.{◌≡◌, ◌+◌, ◌≤◌, ◌++◌, length, map, vec_len, vec_capacity}
use Rattle.mds_pool.specs.Workers.{idle_worker}
use Rattle.mds_pool.proofs.worker.workers_at.Given as goal

-- the seats so far have workers, and there is room for the rest
abbrev pub invariant-loop-seat : goal.invariant-loop-seat
invariant-loop-seat g l = record {
  items : l.room.items ++ map idle_worker l.seat-iterator.rest.items ≡ map idle_worker l.fn.seats.items;
  left : length l.seat-iterator.rest.items ≡ l.seat-iterator.rest.len;
  fits : vec_len l.room + l.seat-iterator.rest.len ≤ vec_capacity l.room;
}
