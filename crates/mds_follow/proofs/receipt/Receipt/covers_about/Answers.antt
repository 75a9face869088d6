use Rattle.std.proofs.Common.{◌<◌, arith}
use Rattle.mds_log.specs.Log.{requests}
use Rattle.mds_book.specs.Shards.{shard_of}
use Rattle.mds_follow.specs.Parts.{CoversVehicle}
use Rattle.mds_follow.proofs.Vehicles.{covers_about, copied_covers}
use Rattle.mds_follow.proofs.receipt.Receipt.covers_about.Goals as goal

pub returns-then-covers : goal.returns-then-covers
returns-then-covers g c = λ yes. covers_about c.args.about c.args.seat.now (requests c.args.self.now) (c.covers.ensures c.if-covers.true)

pub returns-in-Some : goal.returns-in-Some
returns-in-Some g c = λ yes.
    let key = c.in-Some.key in
    let small : shard_of key < 2 = omega arith in
    let about : CoversVehicle key c.args.seat.now (requests c.self.inside.record) =
    copied_covers key c.args.seat.now (requests c.self.inside.record) c.self.inside.first c.self.inside.second small c.self.invariant.0 c.self.invariant.1 (c.has_copied.ensures yes) in
    rw (c.in-Some.is, ← c.self.view_is) about
