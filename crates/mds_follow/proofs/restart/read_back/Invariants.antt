use Rattle.std.proofs.Common.{◌≡◌}
use Rattle.mds_journal.specs.Opening.{place_of}
use Rattle.mds_log.specs.Log.{requests}
use Rattle.mds_follow.specs.Record.{recorded_at}
use Rattle.mds_follow.specs.Reading.{IsAtRequest, IsReadOn}
use Rattle.mds_follow.specs.Restart.{IsHalfway, resuming}
use Rattle.mds_follow.proofs.ReadBack.{rounds_left}
use Rattle.mds_follow.proofs.restart.read_back.Given as goal

-- the requests of the pieces so far are asked and noted, and one more piece is read
abbrev pub invariant-pieces : goal.invariant-pieces
invariant-pieces g l = record {
  reading : IsAtRequest g.D.Device.seen g.D.Device.may_leave g.D.Device.may_be_used g.D.Device.is_true l.ahead.reader.opening;
  read_on : IsReadOn g.D.Device.seen g.D.Device.may_leave g.D.Device.is_true g.D.Device.moment g.D.Device.left_since l.fn.ahead.reader.opening l.ahead.reader.opening;
  halfway : IsHalfway g.D.Device.seen g.D.Device.is_true (resuming l.ahead.reader l.seat l.keeper l.piece);
  keep : l.seat.keeps_all ≡ l.fn.seat.keeps_all;
  at_start : g.D.Device.is_true l.ahead.reader.opening.device → l.keeper ≡ recorded_at (g.D.Device.moment l.fn.ahead.reader.opening.device) (requests l.keeper);
}

abbrev pub decreases-pieces : goal.decreases-pieces
decreases-pieces g l = rounds_left (place_of l.ahead.reader.opening) l.piece.end
