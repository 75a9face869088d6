use mathlib.Core.List.{IsPrefix}
use Rattle.mds_follow.proofs.follower.Follower.follow.Given as goal

-- what is recorded begins what was
abbrev pub invariant-loop : goal.invariant-loop
invariant-loop g l = IsPrefix l.fn.self l.self
