use Rattle.std.proofs.Common.{◌≡◌, ◌+◌, ◌≤◌, ◌++◌, ◌||◌, length, map, vec_len, vec_capacity}
use Rattle.std.specs.List.{list_any}
use Rattle.mds_pool.specs.Workers.{AtWork}
use Rattle.mds_pool.proofs.worker.Round.of.Given as goal

-- what the workers so far came to stands apart, and there is room for the rest
abbrev pub invariant-loop-worker : goal.invariant-loop-worker
invariant-loop-worker g l = record {
  seats : l.seats.items ++ map (λ (one : AtWork). one.seat) l.worker-iterator.rest.items ≡ map (λ (one : AtWork). one.seat) l.fn.workers.items;
  answered : l.answered.items ++ map (λ (one : AtWork). one.answered) l.worker-iterator.rest.items ≡ map (λ (one : AtWork). one.answered) l.fn.workers.items;
  failed : (l.failed || list_any (λ (one : AtWork). one.failed) l.worker-iterator.rest.items) ≡ list_any (λ (one : AtWork). one.failed) l.fn.workers.items;
  left : length l.worker-iterator.rest.items ≡ l.worker-iterator.rest.len;
  seats_fit : vec_len l.seats + l.worker-iterator.rest.len ≤ vec_capacity l.seats;
  answered_fit : vec_len l.answered + l.worker-iterator.rest.len ≤ vec_capacity l.answered;
}
