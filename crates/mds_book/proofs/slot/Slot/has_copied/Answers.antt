use Rattle.std.proofs.Common.{arith}
use Rattle.std.proofs.lemmas.Bool.{leb-true}
use mathlib.Core.List.{IsPrefix}
use Rattle.mds_shard.specs.Replay.{IsEndOf}
use Rattle.mds_book.proofs.CopiedOf.{all_were_copied}
use Rattle.mds_book.proofs.slot.Slot.has_copied.Goals as goal

-- all that the front has seen of the vehicle stands before the end of its requests
pub returns-clause-copied : goal.returns-clause-copied
returns-clause-copied g c = λ is.
    let history = c.self.inside.shard.history in
    let shown : IsPrefix c.args.seen.now c.self.inside.keeper = rw (← c.again-shown.ensures) c.show.ensures.begins in
    let begins : IsPrefix c.args.progress.now.seen history = c.tell_begins.ensures.begins in
    let ends : IsEndOf history c.args.key.now c.end_of-end.result = c.end_of-end.ensures in
    all_were_copied c.args.seen.now c.self.inside.keeper history c.args.progress.now c.args.key.now c.end_of-end.result shown c.self.invariant.3 begins c.count.ensures.within ends
    (omega (arith, leb-true _ _ is, c.count.ensures.count))
