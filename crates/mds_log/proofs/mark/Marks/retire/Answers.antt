use Rattle.std.proofs.Common.{sym, ◌∙◌, ap}
use Rattle.mds_log.proofs.Retiring.{retires_moves}
use Rattle.mds_log.proofs.mark.Marks.retire.Goals as goal

pub compare_exchange-requires : goal.compare_exchange-requires
compare_exchange-requires g c =
    let is = c.self.invariant in
    let offer = c.plain-offer.ensures in
    let book = sym (ap (λ w. w.book) is.0) in (
      ap (λ w. w.tracked) is.0,
      is.1 ∙ book,
      c.mark.invariant.0 ∙ book,
      offer.0,
      rw (ap (λ w. w.key) is.0, offer.1, offer.3) (retires_moves c.self.inside.seen.log c.mark.inside.pen.nib c.mark.invariant.1),
    )
