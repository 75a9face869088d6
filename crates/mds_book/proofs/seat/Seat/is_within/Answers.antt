use Rattle.std.proofs.Common.{ap, subst, List}
use mathlib.Core.List.{IsPrefix}
use Rattle.mds_log.specs.Log.{Acceptance, requests}
use Rattle.mds_book.specs.Copying.{copied_requests}
use Rattle.mds_book.proofs.seat.Seat.is_within.Goals as goal

pub returns-then-has-clause-first : goal.returns-then-has-clause-first
returns-then-has-clause-first g c within =
    let Front : List Acceptance → Type 0 = λ w. IsPrefix (requests w) (copied_requests c.args.first.now) in
    rw (← c.self.view_is) (subst Front c.front.ensures (c.has.ensures c.if-has.true))

pub returns-then-has-clause-second : goal.returns-then-has-clause-second
returns-then-has-clause-second g c within =
    let Front : List Acceptance → Type 0 = λ w. IsPrefix (requests w) (copied_requests c.args.second.now) in
    rw (← c.self.view_is) (subst Front c.front-then-has.ensures (c.has-then-has.ensures within))
