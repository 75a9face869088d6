use Rattle.std.proofs.Common.{◌≡◌, map, Ok}
use Rattle.mds_trace.proofs.workers.replay_parts.Given as goal

-- the parts so far are what the first workers came to
abbrev pub invariant-loop-result : goal.invariant-loop-result
invariant-loop-result g l = l.yielded ≡ map Ok l.parts.items
