use Rattle.std.proofs.Common.{◌+◌, sym, ◌∙◌, ap}
use Rattle.mds_log.proofs.Steps.{makes_moves}
use Rattle.mds_log.proofs.history.Keeper.next_pen.Goals as goal

pub compare_exchange-requires : goal.compare_exchange-requires
compare_exchange-requires g c =
    let is = c.self.invariant in
    let offer = c.plain-offer.ensures in
    let pen = c.no_pen-pen.ensures in
    let book = ap (λ s. s.book) c.again-seen.ensures ∙ (is.1 ∙ sym (ap (λ w. w.book) is.0)) in (
      ap (λ w. w.tracked) is.0,
      book,
      pen.0 ∙ book,
      offer.0,
      rw (ap (λ w. w.key) is.0, pen.1, offer.3) (makes_moves c.again-seen.result.log (c.self.inside.count + 1) c.plain-offer.result.ask),
    )
