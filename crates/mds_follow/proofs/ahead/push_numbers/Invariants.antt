use Rattle.std.proofs.Common.{◌≡◌, ◌+◌, ◌-◌, ◌≤◌, ◌++◌}
use Rattle.std.specs.Prelude.{vec_capacity, vec_len}
use Rattle.mds_groups.specs.Entries.{numbers_from}
use Rattle.mds_follow.proofs.ahead.push_numbers.Given as goal

-- so many numbers came behind the others, and there is room for the rest
abbrev pub invariant-loop-at : goal.invariant-loop-at
invariant-loop-at l = record {
  items : l.numbers.items ≡ l.fn.numbers.items ++ numbers_from l.first l.at;
  room : vec_len l.numbers + (l.count - l.at) ≤ vec_capacity l.numbers;
}
