use Rattle.std.proofs.Common.{take, get_or, subst, sym, Contains, ◌∙◌}
use Rattle.std.proofs.lemmas.List.{take_more, take_all, length-set}
use Rattle.mds_table.specs.declared.state.State.TheVariants.{Removed}
use Rattle.mds_table.specs.declared.state.TheConstants.State.{ALL}
use Rattle.mds_table.proofs.Adding.{among_all}
use Rattle.mds_table.proofs.Bits.{masks_more}
use Rattle.mds_table.proofs.moves.masks_of.Goals as goal

pub loop-from-preserved : goal.loop-from-preserved
loop-from-preserved c =
    let i = c.loop-from.from-index in
    let more = take_more ALL i Removed c.loop-from-test.true in
    rw (more, c.from.ensures, c.code.ensures.code) (record {
      full = length-set c.loop-from.masks _ _ ∙ c.loop-from.invariant.full;
      so_far = masks_more (take i ALL) c.args.rows.now c.args.kind.now (get_or ALL i Removed) c.mask_of.result c.loop-from.masks
          c.loop-from.invariant.full c.mask_of.ensures c.loop-from.invariant.so_far;
    })

pub returns : goal.returns
returns c from =
    c.loop-from.invariant.so_far from (subst (λ states. Contains states from) (sym (take_all c.loop-from.from-index ALL c.loop-from-test.false)) (among_all from))
