use Rattle.std.proofs.Common.{sym, ◌∙◌, ap}
use Rattle.mds_log.proofs.Steps.{begins_moves}
use Rattle.mds_log.proofs.history.BlankLog.with_name.Goals as goal

pub compare_exchange-found-requires : goal.compare_exchange-found-requires
compare_exchange-found-requires g c =
    let head = c.self.invariant.0 in
    let offer = c.plain-offer.ensures in
    let pen = c.no_pen-pen.ensures in
    let book = sym (ap (λ w. w.book) head) in (
      ap (λ w. w.tracked) head,
      book,
      pen.0 ∙ book,
      offer.0,
      rw (ap (λ w. w.key) head, c.self.invariant.1, pen.1, offer.3) (begins_moves c.plain-offer.result.ask),
    )
