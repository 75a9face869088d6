use Rattle.mds_shard.proofs.Walks.{walk_starts}
use Rattle.mds_shard.proofs.shard.Shard.walk_start.Goals as goal

pub returns-clause-start : goal.returns-clause-start
returns-clause-start g c = walk_starts c.args.self.now.history c.args.key.now c.in_ok-vehicle.vehicle c.in_ok-vehicle.ensures
