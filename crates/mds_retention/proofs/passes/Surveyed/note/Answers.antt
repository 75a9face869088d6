use Rattle.std.proofs.Common.{◌∙◌, ◌<◌, ◌++◌, ◌∷◌, [], Bool, List, cond, length, sym, ap, subst, arith, append-nil}
use Rattle.std.below.core.specs.declared.int.usize.TheConstants.{MAX}
use Rattle.mds_core.specs.declared.request.Request.{Request}
use Rattle.mds_compact.specs.Compaction.{kept_of}
use Rattle.mds_compact.specs.Cutting.{IsCuttingOf}
use Rattle.mds_compact.specs.Passes.{IsSurveyOf}
use Rattle.mds_compact.proofs.Kept.{kept_more}
use Rattle.mds_retention.proofs.Left.{kept_few}
use Rattle.mds_retention.proofs.passes.Surveyed.note.Goals as goal

pub returns-in_ok-note-clause-surveyed : goal.returns-in_ok-note-clause-surveyed
returns-in_ok-note-clause-surveyed c = λ cuts history few is.
    let request = c.args.request.now in
    let is_left = c.next_mark-is_left.result in
    let marks = c.args.self.now.marks.items in
    let pushed = sym c.in_ok-push.ensures.items in
    let Cut : List Bool → Type 0 = λ all. IsCuttingOf cuts (history ++ request ∷ []) all c.next_mark-is_left.new.self in
    let Survey : List Request → Type 0 = λ all. IsSurveyOf all c.note.new.self in
    let Marks : List Bool → Type 0 = λ all. Survey (kept_of all (history ++ request ∷ [])) in
    let kept = kept_more marks history is_left request is.cutting.count ∙ ap (λ b. kept_of marks history ++ cond b (request ∷ []) []) c.if-is_left.true in
    let short : length (kept_of marks history) < MAX = omega (arith, kept_few marks history, few) in
    record {
      cutting = subst Cut pushed (c.next_mark-is_left.ensures cuts history marks few is.cutting);
      survey = subst Marks pushed (subst Survey (sym kept) (c.in_ok-note.ensures (kept_of marks history) short is.survey));
    }

pub returns-else-is_left-clause-surveyed : goal.returns-else-is_left-clause-surveyed
returns-else-is_left-clause-surveyed c = λ cuts history few is.
    let request = c.args.request.now in
    let is_left = c.next_mark-is_left.result in
    let marks = c.args.self.now.marks.items in
    let pushed = sym c.in_ok-push.ensures.items in
    let Cut : List Bool → Type 0 = λ all. IsCuttingOf cuts (history ++ request ∷ []) all c.next_mark-is_left.new.self in
    let Survey : List Request → Type 0 = λ all. IsSurveyOf all c.args.self.now.survey in
    let Marks : List Bool → Type 0 = λ all. Survey (kept_of all (history ++ request ∷ [])) in
    let kept = kept_more marks history is_left request is.cutting.count ∙ ap (λ b. kept_of marks history ++ cond b (request ∷ []) []) c.if-is_left.false ∙ append-nil (kept_of marks history) in
    record {
      cutting = subst Cut pushed (c.next_mark-is_left.ensures cuts history marks few is.cutting);
      survey = subst Marks pushed (subst Survey (sym kept) is.survey);
    }
