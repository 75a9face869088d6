use Rattle.std.proofs.Common.{take, get_or, sym, ◌∙◌, subst, arith, refl}
use Rattle.std.proofs.lemmas.List.{take_more, take_all}
use Rattle.mds_table.specs.declared.state.State.TheVariants.{Removed}
use Rattle.mds_table.specs.Row.{row_of}
use Rattle.mds_table.specs.Entry.{IsRowTo}
use Rattle.mds_table.specs.RowSet.{Grows}
use Rattle.mds_table.proofs.Adding.{row_to_added, row_to_passed}
use Rattle.mds_table.proofs.Growing.{grows_both, grows_as, grows_none}
use Rattle.mds_table.proofs.row_set.Tally.add_rows.Goals as goal
use Rattle.mds_table.proofs.row_set.Tally.add_rows.Goals.{then-has, else-has}

pub loop-to-init : goal.loop-to-init
loop-to-init c = grows_none c.args.entry.now.kind c.args.self.now (λ row is. absurd (omega (arith, is.named.1)))

pub loop-to-preserved : goal.loop-to-preserved
loop-to-preserved c =
    let entry = c.args.entry.now in
    let front = take c.loop-to.to-index c.args.states.now in
    let to = get_or c.args.states.now c.loop-to.to-index Removed in
    let row = row_of c.args.from entry.kind to in
    let more = take_more c.args.states.now c.loop-to.to-index Removed c.loop-to-test.true in
    elim c.if-has.branch [
      | then-has w ↦ rw (more, w.self-is) (grows_both entry.kind c.args.self.now c.loop-to.self w.add_row.new.self c.loop-to.invariant (w.add_row.ensures entry.kind)
          (λ rows mid new. row_to_added c.args.from entry front to row refl (sym c.has.ensures ∙ w.if-has.true)))
      | else-has w ↦ rw (more, w.self-is) (grows_as entry.kind c.args.self.now c.loop-to.self c.loop-to.invariant
          (λ rows new. row_to_passed c.args.from entry front to (sym c.has.ensures ∙ w.if-has.false)))
    ]

pub returns : goal.returns
returns c =
    let all = take_all c.loop-to.to-index c.args.states.now c.loop-to-test.false in
    subst (λ states. Grows c.args.entry.now.kind c.args.self.now c.loop-to.self (IsRowTo c.args.from c.args.entry.now states)) all c.loop-to.invariant
