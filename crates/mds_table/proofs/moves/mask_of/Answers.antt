use Rattle.std.proofs.Common.{take, get_or, subst, arith}
use Rattle.std.proofs.lemmas.List.{take_more, take_all}
use Rattle.mds_table.specs.declared.state.State.TheVariants.{Removed}
use Rattle.mds_table.specs.declared.state.TheConstants.State.{ALL}
use Rattle.mds_table.proofs.Adding.{among_all}
use Rattle.mds_table.proofs.Bits.{IsMaskAmong, has_bit-zero, mask_more, mask_passed}
use Rattle.mds_table.proofs.moves.mask_of.Goals as goal
use Rattle.mds_table.proofs.moves.mask_of.Goals.{then-has_row_of, else-has_row_of}

pub loop-to-init : goal.loop-to-init
loop-to-init c to = (λ has. let none = has_bit-zero to in cc, λ both. absurd (omega arith))

pub loop-to-preserved : goal.loop-to-preserved
loop-to-preserved c =
    let i = c.loop-to.to-index in
    let to = get_or ALL i Removed in
    let rows = c.args.rows.now in
    let kind = c.args.kind.now in
    let more = take_more ALL i Removed c.loop-to-test.true in
    elim c.if-has_row_of.branch [
      | then-has_row_of w ↦ rw (more, w.mask-is, w.bit_of-mask.ensures) (mask_more (take i ALL) rows kind c.args.from to c.loop-to.mask (c.has_row_of.ensures.0 w.if-has_row_of.true) c.loop-to.invariant)
      | else-has_row_of w ↦ rw (more, w.mask-is) (mask_passed (take i ALL) rows kind c.args.from to c.loop-to.mask (λ there. let has = rw w.if-has_row_of.false at c.has_row_of.ensures.1 there in cc) c.loop-to.invariant)
    ]

pub returns : goal.returns
returns c to =
    let all = take_all c.loop-to.to-index ALL c.loop-to-test.false in
    let is = subst (λ states. IsMaskAmong states c.args.rows.now c.args.kind.now c.args.from c.loop-to.mask) all c.loop-to.invariant in
    (λ has. ((is to).0 has).1, λ there. (is to).1 (among_all to, there))
