use Rattle.std.proofs.Common.{[], List, take, refl, sym, subst, rules}
use Rattle.std.proofs.lemmas.List.{take_all}
use Rattle.mds_compact.specs.Cutting.{IsCuttingOf}
use Rattle.mds_compact.specs.declared.cutting.Cut.{Cut}
use Rattle.mds_compact.proofs.Items.{next_item}
use Rattle.mds_compact.proofs.Marks.{cut_nil}
use Rattle.mds_compact.proofs.cutting.Cutting.open.Goals as goal

pub loop-cut-init : goal.loop-cut-init
loop-cut-init c = record { count = refl; fronts = λ key. search rules; left = cut_nil [] }

pub loop-cut-preserved : goal.loop-cut-preserved
loop-cut-preserved c =
    let cuts = c.args.cuts.now in
    let i = c.loop-cut.cut-index in
    let next = next_item cuts i c.cut-item.result c.loop-cut-test.true c.cut-item.is in
    let Is : List Cut → Type 0 = λ all. IsCuttingOf all [] [] c.add.new.self in
    subst Is (sym next.0) (c.in_ok-add.ensures (take i cuts) c.loop-cut.invariant)

pub returns : goal.returns
returns c =
    let cuts = c.args.cuts.now in
    let Is : List Cut → Type 0 = λ all. IsCuttingOf all [] [] c.loop-cut.cutting in
    subst Is (take_all c.loop-cut.cut-index cuts c.loop-cut-test.false) c.loop-cut.invariant
