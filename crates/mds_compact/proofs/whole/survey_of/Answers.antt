use Rattle.std.proofs.Common.{◌<◌, List, length, take, sym, subst, arith, length-take-le}
use Rattle.std.below.core.specs.declared.int.usize.TheConstants.{MAX}
use Rattle.std.proofs.lemmas.List.{take_all}
use Rattle.mds_core.specs.declared.request.Request.{Request}
use Rattle.mds_compact.specs.Passes.{IsSurveyOf}
use Rattle.mds_compact.proofs.Items.{next_item}
use Rattle.mds_compact.proofs.whole.survey_of.Goals as goal

pub loop-request-preserved : goal.loop-request-preserved
loop-request-preserved c =
    let history = c.args.history.now in
    let i = c.loop-request.request-index in
    let P : List Request → Type 0 = λ all. IsSurveyOf all c.note.new.self in
    let next = next_item history i c.request-item.result c.loop-request-test.true c.request-item.is in
    let few : length (take i history) < MAX = omega (arith, length-take-le i history (omega arith)) in
    subst P (sym next.0) (c.in_ok-note.ensures (take i history) few c.loop-request.invariant)

pub returns : goal.returns
returns c =
    let history = c.args.history.now in
    let P : List Request → Type 0 = λ all. IsSurveyOf all c.loop-request.survey in
    subst P (take_all c.loop-request.request-index history c.loop-request-test.false) c.loop-request.invariant
