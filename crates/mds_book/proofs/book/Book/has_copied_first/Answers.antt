use Rattle.std.proofs.Common.{ap, subst, List}
use mathlib.Core.List.{IsPrefix}
use Rattle.mds_core.specs.declared.request.Request.{Request}
use Rattle.mds_core.specs.History.{requests_of}
use Rattle.mds_log.specs.Log.{Acceptance, requests}
use Rattle.mds_book.specs.Copying.{copied_requests}
use Rattle.mds_book.specs.Seats.{Seated}
use Rattle.mds_book.proofs.book.Book.has_copied_first.Goals as goal

-- what the seat has seen is what its part has
pub returns : goal.returns
returns g c copied =
    let Front : List Acceptance → Type 0 = λ w. IsPrefix (requests_of (requests w) c.args.key.now) (requests_of (copied_requests c.args.first.now) c.args.key.now) in
    let Seen : List Request → Type 0 = λ w. IsPrefix (requests_of w c.args.key.now) (requests_of (copied_requests c.args.first.now) c.args.key.now) in
    subst Seen (ap (λ (s : Seated). s.first_seen) c.seat.view_is) (subst Front c.front.ensures (c.has_copied_in.ensures copied))
