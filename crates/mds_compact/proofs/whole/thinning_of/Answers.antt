use Rattle.std.proofs.Common.{◌+◌, List, take, drop, sym, subst}
use Rattle.std.proofs.lemmas.List.{take_all, drop_all}
use Rattle.mds_core.specs.declared.request.Request.{Request}
use Rattle.mds_compact.specs.Passes.{IsThinningOf}
use Rattle.mds_compact.proofs.Items.{next_item}
use Rattle.mds_compact.proofs.whole.thinning_of.Goals as goal

pub loop-request-preserved : goal.loop-request-preserved
loop-request-preserved c = λ survey.
    let history = c.args.history.now in
    let i = c.loop-request.request-index in
    let next = next_item history i c.request-item.result c.loop-request-test.true c.request-item.is in
    let Was : List Request → Type 0 = λ rest. IsThinningOf c.args.from (take i history) rest c.loop-request.thinning in
    let Is : List Request → Type 0 = λ old. IsThinningOf c.args.from old (drop (i + 1) history) c.take.new.self in
    subst Is (sym next.0) (c.in_ok-take.ensures c.args.from (take i history) (drop (i + 1) history) (subst Was next.1 (c.loop-request.invariant survey)))

pub returns : goal.returns
returns c = λ survey.
    let history = c.args.history.now in
    let i = c.loop-request.request-index in
    let Old : List Request → Type 0 = λ old. IsThinningOf c.args.from old (drop i history) c.loop-request.thinning in
    let Rest : List Request → Type 0 = λ rest. IsThinningOf c.args.from history rest c.loop-request.thinning in
    subst Rest (drop_all i history c.loop-request-test.false) (subst Old (take_all i history c.loop-request-test.false) (c.loop-request.invariant survey))
