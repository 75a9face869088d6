use Rattle.std.proofs.Common.{add-one, arith}
use Rattle.std.proofs.lemmas.Option.{slice_get_within}
use Rattle.mds_shard.proofs.Ends.{ends_at_none, ends_behind_last}
use Rattle.mds_shard.proofs.shard.Shard.end_of.Goals as goal

pub overflow_add-result : goal.overflow_add-result
overflow_add-result g c =
    let history = c.args.self.now.history in
    let kept = c.in-Some.ensures in
    omega (arith, slice_get_within history c.in-Some.vehicle.last kept.1.request kept.1.is)

pub returns-in-Some : goal.returns-in-Some
returns-in-Some g c = rw add-one (ends_behind_last c.args.self.now.history c.args.key.now c.in-Some.vehicle.last c.in-Some.ensures.1)

pub returns-in-None : goal.returns-in-None
returns-in-None g c = ends_at_none c.args.self.now.history c.args.key.now c.in-None.ensures
