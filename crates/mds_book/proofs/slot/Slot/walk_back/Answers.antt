use Rattle.std.proofs.Common.{length, ap, length-append, arith}
use mathlib.Core.List.{IsPrefix}
use Rattle.mds_log.specs.Log.{requests}
use Rattle.mds_shard.proofs.Walks.{walk_stands}
use Rattle.mds_book.proofs.Trues.{requests_prefix}
use Rattle.mds_book.proofs.slot.Slot.walk_back.Goals as goal

pub walk_back-requires-clause-from : goal.walk_back-requires-clause-from
walk_back-requires-clause-from g c =
    let history = c.self.inside.shard.history in
    let shown : IsPrefix c.args.seen.now c.self.inside.keeper = rw (← c.again-shown.ensures) c.show.ensures.begins in
    let begins : IsPrefix (requests c.args.seen.now) history = rw (← c.self.invariant.3) (requests_prefix c.args.seen.now c.self.inside.keeper shown) in
    let from = c.requires.from in
    let stands = walk_stands (requests c.args.seen.now) from.0 c.args.from (g.E.TakesEvents.events c.args.events.now) from.1 in
    omega (arith, stands, length-append (requests c.args.seen.now) begins.0, ap length begins.1)

pub returns-clause-walk : goal.returns-clause-walk
returns-clause-walk g c = λ key is.
    let history = c.self.inside.shard.history in
    let shown : IsPrefix c.args.seen.now c.self.inside.keeper = rw (← c.again-shown.ensures) c.show.ensures.begins in
    let begins : IsPrefix (requests c.args.seen.now) history = rw (← c.self.invariant.3) (requests_prefix c.args.seen.now c.self.inside.keeper shown) in
    c.walk_back.ensures.walk (requests c.args.seen.now) key begins is
