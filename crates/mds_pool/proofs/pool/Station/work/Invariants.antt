use Rattle.std.proofs.Common.{◌≡◌}
use Rattle.mds_face.specs.Seats.{HasGrown}
use Rattle.mds_pool.proofs.pool.Station.work.Given as goal

abbrev pub invariant-loop-nth : goal.invariant-loop-nth
invariant-loop-nth g l = record {
  grown : HasGrown l.initial.seat l.seat;
  counted : l.answered ≡ l.nth;
}
