use Rattle.std.proofs.Common.{take, get_or, sym, ◌∙◌, subst, arith}
use Rattle.std.proofs.lemmas.List.{take_more, take_all}
use Rattle.mds_table.specs.declared.state.State.TheVariants.{Removed}
use Rattle.mds_table.specs.RowSet.{Grows}
use Rattle.mds_table.proofs.Adding.{IsRowFrom, rows_from_added, rows_from_passed}
use Rattle.mds_table.proofs.Growing.{grows_both, grows_as, grows_none}
use Rattle.mds_table.proofs.row_set.Tally.add_entry.Goals as goal
use Rattle.mds_table.proofs.row_set.Tally.add_entry.Goals.{then-has, else-has}

pub loop-from-init : goal.loop-from-init
loop-from-init c = grows_none c.args.entry.now.kind c.args.self.now (λ row is. absurd (omega (arith, is.0.1)))

pub loop-from-preserved : goal.loop-from-preserved
loop-from-preserved c =
    let entry = c.args.entry.now in
    let front = take c.loop-from.from-index c.args.states.now in
    let from = get_or c.args.states.now c.loop-from.from-index Removed in
    let more = take_more c.args.states.now c.loop-from.from-index Removed c.loop-from-test.true in
    elim c.if-has.branch [
      | then-has w ↦ rw (more, w.self-is) (grows_both entry.kind c.args.self.now c.loop-from.self w.add_rows.new.self c.loop-from.invariant w.add_rows.ensures
          (λ rows mid new. rows_from_added from entry front (sym c.has.ensures ∙ w.if-has.true)))
      | else-has w ↦ rw (more, w.self-is) (grows_as entry.kind c.args.self.now c.loop-from.self c.loop-from.invariant
          (λ rows new. rows_from_passed from entry front (sym c.has.ensures ∙ w.if-has.false)))
    ]

pub returns : goal.returns
returns c =
    let all = take_all c.loop-from.from-index c.args.states.now c.loop-from-test.false in
    subst (λ states. Grows c.args.entry.now.kind c.args.self.now c.loop-from.self (IsRowFrom c.args.entry.now states)) all c.loop-from.invariant
