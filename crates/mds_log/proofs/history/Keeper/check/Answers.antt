use Rattle.std.proofs.Common.{◌+◌, sym, ◌∙◌, ap, subst, List}
use mathlib.Core.List.{IsPrefix}
use Rattle.mds_log.specs.declared.entry.Entry.{Entry}
use Rattle.mds_log.proofs.Steps.{checks_moves}
use Rattle.mds_log.proofs.history.Keeper.check.Goals as goal

pub compare_exchange-requires : goal.compare_exchange-requires
compare_exchange-requires g c =
    let inside = c.self.inside in
    let is = c.self.invariant in
    let known = c.learn.new.self.log in
    let again = c.again-known.ensures in
    let offer = c.plain-offer.ensures in
    let book = sym (ap (λ w. w.book) is.0) in
    let begins : IsPrefix inside.seen.log known = subst (λ (l : List Entry). IsPrefix l known) (ap (λ s. s.log) again) c.learn.ensures.2 in (
      ap (λ w. w.tracked) is.0,
      c.learn.ensures.0 ∙ (ap (λ s. s.book) again ∙ (is.1 ∙ book)),
      is.2 ∙ book,
      offer.0,
      rw (ap (λ w. w.key) is.0, offer.3) (checks_moves known inside.seen.log inside.pen.nib (inside.count + 1) c.plain-offer.result.ask is.3 is.4 begins is.5),
    )
