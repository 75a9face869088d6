use Rattle.std.proofs.Common.{◌≡◌, ◌∙◌, ap, sym, subst, slice_get}
use Rattle.mds_steps.specs.StateSet.{AreInCodeOrder}
use Rattle.mds_steps.specs.LeastChain.{IsLeastNext}
use Rattle.mds_steps.proofs.Gathered.{led}
use Rattle.mds_steps.proofs.Least.{first_least}
use Rattle.mds_steps.proofs.chain.least_next.Goals as goal

pub returns : goal.returns
returns c =
    let rows = c.args.table.now in
    let is : c.copied.result ≡ slice_get c.intersection.result 0 =
    c.copied.ensures ∙ c.first.ensures.value ∙ ap (λ states. slice_get states 0) (c.deref.ensures.0 ∙ c.states-next.ensures.items) in
    let order = subst (λ states. AreInCodeOrder states) c.states-next.ensures.items c.states-next.ensures.order in
    subst (IsLeastNext rows c.args.from c.args.kind.now c.args.onward.now) (sym is) (first_least rows c.args.onward.now c.led_to.result c.intersection.result c.args.from c.args.kind.now order
    (led rows c.args.kind.now c.args.onward.now c.masks-masks.result c.masks-masks.ensures c.args.from c.led_to.result c.led_to.ensures) c.intersection.ensures)
