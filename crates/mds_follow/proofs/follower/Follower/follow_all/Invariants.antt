use Rattle.std.proofs.Common.{take}
use Rattle.std.specs.List.{All}
use mathlib.Core.List.{IsPrefix}
use Rattle.mds_log.specs.Log.{requests}
use Rattle.mds_follow.specs.Parts.{Covers}
use Rattle.mds_follow.proofs.follower.Follower.follow_all.Given as goal

-- what is recorded begins what was, and has what the seats so far have seen
abbrev pub invariant-loop-seat : goal.invariant-loop-seat
invariant-loop-seat g l = record {
  begins : IsPrefix l.fn.self l.self;
  covers : All (λ seat. Covers seat (requests l.self)) (take l.seat-index l.fn.seats);
}
