use Rattle.std.proofs.lemmas.Bool.{leb-true}
use Rattle.std.proofs.Common.{arith}
use Rattle.mds_book.proofs.Copying.{was_copied}
use Rattle.mds_book.proofs.progress.Progress.has.Goals as goal

-- one of the two fronts begins the other
pub returns : goal.returns
returns g c is =
    rw (← c.self.view_is)
    (was_copied c.self.inside.front c.args.front.now c.self.inside.count c.tell_order.ensures c.self.invariant
    (omega (arith, leb-true _ _ is, c.len.ensures)))
