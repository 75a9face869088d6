use Rattle.std.proofs.Common.{◌≡◌, ◌++◌, ℕ, List, [], ◌∷◌, sym, ◌∙◌, ap, subst, arith, length, length-append}
use Rattle.mds_log.specs.declared.entry.Entry.{Entry}
use Rattle.mds_log.specs.Rules.{IsKey}
use Rattle.mds_log.proofs.Cells.{key_push}
use Rattle.mds_log.proofs.Steps.{adds_moves}
use Rattle.mds_log.proofs.history.Keeper.add.Goals as goal

pub compare_exchange-requires : goal.compare_exchange-requires
compare_exchange-requires g c =
    let inside = c.self.inside in
    let is = c.self.invariant in
    let offer = c.plain-offer.ensures in
    let book = sym (ap (λ w. w.book) is.0) in (
      ap (λ w. w.tracked) is.0,
      is.1 ∙ book,
      is.2 ∙ book,
      offer.0,
      rw (ap (λ w. w.key) is.0, offer.1, offer.3) (adds_moves inside.seen.log inside.pen.nib _ _ is.3 is.4 is.5),
    )

-- the pen at hand is the one that the new last entry names
pub invariant_of-self : goal.invariant_of-self
invariant_of-self g c =
    let is = c.self.invariant in
    let log = c.self.inside.seen.log in
    let entry = c.plain-offer.result.ask in
    let after = c.compare_exchange.new.seen.log in
    let pen = c.next_pen-next.result.nib.key in
    let added = c.compare_exchange.ensures.7 in
    let named : IsKey entry.next after = subst (λ (l : List Entry). IsKey entry.next l) (sym added) (key_push log entry) in
    let grown : length after ≡ length (log ++ entry ∷ []) = ap length added in
    let key : IsKey pen after = subst (λ (k : ℕ). IsKey k after) (ap (λ e. e.next) c.plain-offer.ensures.1) named in
    (is.0, c.compare_exchange.ensures.0 ∙ is.1, c.next_pen-next.ensures.book, c.next_pen-next.ensures.right, key, omega (arith, grown, length-append log (entry ∷ []), is.5))
