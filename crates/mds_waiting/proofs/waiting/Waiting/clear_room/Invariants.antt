use Rattle.std.proofs.Common.{ℕ}
use Rattle.mds_waiting.specs.Waiting.{HaveLeftFor, held_bytes}
use Rattle.mds_waiting.proofs.waiting.Waiting.clear_room.Given as goal

abbrev pub invariant-loop : goal.invariant-loop
invariant-loop g l = (n : ℕ) × HaveLeftFor n l.count l.initial.self l.self

abbrev pub decreases-loop : goal.decreases-loop
decreases-loop g l = held_bytes l.self
