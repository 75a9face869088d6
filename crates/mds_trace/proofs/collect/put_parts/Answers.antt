use Rattle.std.proofs.Common.{◌≡◌, List, take, sym, ◌∙◌, ap, subst}
use Rattle.mds_trace.specs.declared.part.ToldVerdict.{ToldVerdict}
use Rattle.mds_trace.specs.Parts.{all_told, ArePut}
use Rattle.mds_trace.proofs.Puts.{more_put}
use Rattle.mds_trace.proofs.Places.{take_push}
use Rattle.mds_trace.proofs.Collected.{told_push}
use Rattle.mds_trace.proofs.collect.put_parts.Goals as goal

pub loop-part-preserved : goal.loop-part-preserved
loop-part-preserved c =
    let before = take c.loop-part.part-index c.args.parts.now in
    let part = c.part-item.result in
    let put = subst (λ (told : List ToldVerdict). ArePut told c.loop-part.lines c.put_told.new.lines) c.deref.ensures.value c.put_told.ensures in
    subst (λ (told : List ToldVerdict). ArePut told c.args.lines.now c.put_told.new.lines)
    (sym (told_push before part) ∙ ap all_told (take_push c.args.parts.now c.loop-part.part-index part c.loop-part-test.true c.part-item.is))
    (more_put (all_told before) part.told.items c.args.lines.now c.loop-part.lines c.put_told.new.lines c.loop-part.invariant put)
