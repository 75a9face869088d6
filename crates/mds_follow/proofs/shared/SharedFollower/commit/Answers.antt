use Rattle.mds_log.specs.Log.{requests}
use Rattle.mds_follow.proofs.Vehicles.{covers_about}
use Rattle.mds_follow.proofs.shared.SharedFollower.commit.Goals as goal

pub returns-then-covers-clause-covers : goal.returns-then-covers-clause-covers
returns-then-covers-clause-covers g c = covers_about c.args.about c.args.seat.now (requests c.args.receipt.now) (c.covers.ensures c.if-covers.true)

pub returns-clause-covers : goal.returns-clause-covers
returns-clause-covers g c = covers_about c.args.about c.args.seat.now (requests c.follow.new.receipt) c.in_ok-follow.ensures.covers
