use Rattle.std.proofs.Common.{◌≡◌, ◌∙◌, [], ℕ, Bool, List, Some, inl, inr, length, ap, subst, rules}
use Rattle.mds_core.specs.declared.request.Request.{Request}
use Rattle.mds_compact.specs.Compaction.{kept_of}
use Rattle.mds_compact.specs.Passes.{IsSurveyOf, IsThinningOf}
use Rattle.mds_retention.specs.Copying.{AreTotalsOf, HasKeptIn, IsMarkedBy}
use Rattle.mds_retention.specs.Compacting.{IsCompactFault, StandsWhole}
use Rattle.mds_retention.specs.Telling.{BeginsWith, IsAgainFault}
use Rattle.mds_retention.specs.declared.error.CompactError.TheVariants.{Old}
use Rattle.mds_retention.proofs.Journals.{compacted_to, cut_fault}
use Rattle.mds_retention.proofs.compacting.compact.Goals as goal

pub returns-clause-made : goal.returns-clause-made
returns-clause-made g c = λ first readings is found stands.
    let cuts = c.args.cuts.now in
    let known = g.R.Read.remaining in
    let survey = c.in_ok-surveyed.ensures.survey in
    let surveyed = survey.3 cuts c.in_ok-cutting.ensures in
    let thinning = c.in_ok-thinning.thinning in
    let marked = c.in_ok-marked.marked in
    let Thin : List Bool → Type 0 = λ stays. (bytes : List ℕ) (history : List Request) → known c.args.old.second ≡ Some bytes → BeginsWith bytes history → length stays ≡ length history
    → IsSurveyOf (kept_of stays history) c.in_ok-surveyed.surveyed.survey → IsThinningOf c.args.from (kept_of stays history) [] thinning in
    let Mark : List Bool → Type 0 = λ stays. (from : ℕ) (bytes : List ℕ) (history : List Request) → known c.args.old.third ≡ Some bytes → BeginsWith bytes history → length stays ≡ length history
    → IsThinningOf from (kept_of stays history) [] thinning → IsMarkedBy from (kept_of stays history) history marked.marks.items × AreTotalsOf history (kept_of marked.marks.items history) marked.totals in
    let thin = subst Thin c.deref.ensures.value c.in_ok-thinning.ensures.thinning in
    let mark = subst Mark c.deref-2.ensures.value c.in_ok-marked.ensures.marks in
    let Whole : List Bool → Type 0 = λ marks. StandsWhole (HasKeptIn (known c.args.old.fourth) marks) found in
    let made = compacted_to known c.args.old first c.args.from cuts survey.0 c.in_ok-surveyed.surveyed thinning marked.marks.items (record { cuts = c.in_ok-cut.cut; totals = marked.totals }) found
    readings survey.1.0 surveyed (λ bytes is_known begins. thin bytes survey.0 is_known begins survey.2 surveyed.survey)
    (λ bytes is_known begins thinned. mark c.args.from bytes survey.0 is_known begins survey.2 thinned) (c.in_ok-cut.ensures.totals survey.0 c.in_ok-surveyed.surveyed.marks.items surveyed.cutting)
    (subst Whole c.deref-3.ensures.value (c.in_ok-write_new.ensures.made is found stands)) in
    made

pub returns-clause-crash : goal.returns-clause-crash
returns-clause-crash g c = λ first readings is found stands.
    let cuts = c.args.cuts.now in
    let known = g.R.Read.remaining in
    let survey = c.in_ok-surveyed.ensures.survey in
    let surveyed = survey.3 cuts c.in_ok-cutting.ensures in
    let thinning = c.in_ok-thinning.thinning in
    let marked = c.in_ok-marked.marked in
    let Thin : List Bool → Type 0 = λ stays. (bytes : List ℕ) (history : List Request) → known c.args.old.second ≡ Some bytes → BeginsWith bytes history → length stays ≡ length history
    → IsSurveyOf (kept_of stays history) c.in_ok-surveyed.surveyed.survey → IsThinningOf c.args.from (kept_of stays history) [] thinning in
    let Mark : List Bool → Type 0 = λ stays. (from : ℕ) (bytes : List ℕ) (history : List Request) → known c.args.old.third ≡ Some bytes → BeginsWith bytes history → length stays ≡ length history
    → IsThinningOf from (kept_of stays history) [] thinning → IsMarkedBy from (kept_of stays history) history marked.marks.items × AreTotalsOf history (kept_of marked.marks.items history) marked.totals in
    let thin = subst Thin c.deref.ensures.value c.in_ok-thinning.ensures.thinning in
    let mark = subst Mark c.deref-2.ensures.value c.in_ok-marked.ensures.marks in
    let Whole : List Bool → Type 0 = λ marks. StandsWhole (HasKeptIn (known c.args.old.fourth) marks) found in
    let made = compacted_to known c.args.old first c.args.from cuts survey.0 c.in_ok-surveyed.surveyed thinning marked.marks.items (record { cuts = c.in_ok-cut.cut; totals = marked.totals }) found
    readings survey.1.0 surveyed (λ bytes is_known begins. thin bytes survey.0 is_known begins survey.2 surveyed.survey)
    (λ bytes is_known begins thinned. mark c.args.from bytes survey.0 is_known begins survey.2 thinned) (c.in_ok-cut.ensures.totals survey.0 c.in_ok-surveyed.surveyed.marks.items surveyed.cutting)
    (subst Whole c.deref-3.ensures.value (c.in_ok-write_new.ensures.made is found stands)) in
    inr (made.0, made.1, made.2.0)

pub returns-in_err-write_new-clause-crash : goal.returns-in_err-write_new-clause-crash
returns-in_err-write_new-clause-crash g c = λ first readings is found stands.
    let cuts = c.args.cuts.now in
    let known = g.R.Read.remaining in
    let survey = c.in_ok-surveyed.ensures.survey in
    let surveyed = survey.3 cuts c.in_ok-cutting.ensures in
    let thinning = c.in_ok-thinning.thinning in
    let marked = c.in_ok-marked.marked in
    let Thin : List Bool → Type 0 = λ stays. (bytes : List ℕ) (history : List Request) → known c.args.old.second ≡ Some bytes → BeginsWith bytes history → length stays ≡ length history
    → IsSurveyOf (kept_of stays history) c.in_ok-surveyed.surveyed.survey → IsThinningOf c.args.from (kept_of stays history) [] thinning in
    let Mark : List Bool → Type 0 = λ stays. (from : ℕ) (bytes : List ℕ) (history : List Request) → known c.args.old.third ≡ Some bytes → BeginsWith bytes history → length stays ≡ length history
    → IsThinningOf from (kept_of stays history) [] thinning → IsMarkedBy from (kept_of stays history) history marked.marks.items × AreTotalsOf history (kept_of marked.marks.items history) marked.totals in
    let thin = subst Thin c.deref.ensures.value c.in_ok-thinning.ensures.thinning in
    let mark = subst Mark c.deref-2.ensures.value c.in_ok-marked.ensures.marks in
    let Whole : List Bool → Type 0 = λ marks. StandsWhole (HasKeptIn (known c.args.old.fourth) marks) found in
    elim (c.in_err-write_new.ensures.crash is found stands) [
      | inl was ↦ inl (c.in_ok-is_free.ensures.stands found was)
      | inr whole ↦
          let made = compacted_to known c.args.old first c.args.from cuts survey.0 c.in_ok-surveyed.surveyed thinning marked.marks.items (record { cuts = c.in_ok-cut.cut; totals = marked.totals }) found
          readings survey.1.0 surveyed (λ bytes is_known begins. thin bytes survey.0 is_known begins survey.2 surveyed.survey)
          (λ bytes is_known begins thinned. mark c.args.from bytes survey.0 is_known begins survey.2 thinned) (c.in_ok-cut.ensures.totals survey.0 c.in_ok-surveyed.surveyed.marks.items surveyed.cutting)
          (subst Whole c.deref-3.ensures.value whole) in
          inr (made.0, made.1, made.2.0)
    ]

pub returns-in_err-cut-clause-fault : goal.returns-in_err-cut-clause-fault
returns-in_err-cut-clause-fault g c =
    let cuts = c.args.cuts.now in
    let survey = c.in_ok-surveyed.ensures.survey in
    let surveyed = survey.3 cuts c.in_ok-cutting.ensures in
    let why = c.in_err-cut.ensures.fault survey.0 c.in_ok-surveyed.surveyed.marks.items surveyed.cutting in
    let fault : IsCompactFault g.R.Read.remaining c.args.old cuts c.in_err-cut.field-0.0 = cut_fault g.R.Read.remaining c.args.old cuts survey.0 c.in_err-cut.field-0.0 survey.1.0 why in
    search rules

pub returns-in_err-marked-clause-fault : goal.returns-in_err-marked-clause-fault
returns-in_err-marked-clause-fault g c =
    let known = g.R.Read.remaining in
    let survey = c.in_ok-surveyed.ensures.survey in
    let count : length c.deref-2.result.now ≡ length survey.0 = ap length c.deref-2.ensures.value ∙ survey.2 in
    let Again : ℕ → Type 0 = λ n. IsAgainFault (known c.args.old.third) n c.in_err-marked.field-0.0 in
    let fault : IsCompactFault known c.args.old c.args.cuts.now (Old c.in_err-marked.field-0.0) = inr (survey.0, survey.1.0, inr (inl (subst Again count c.in_err-marked.ensures.fault))) in
    search rules
