use Rattle.std.proofs.Common.{◌≡◌, ◌∙◌, [], ℕ, Bool, List, Option, Some, inl, inr, length, ap, subst, rules}
use Rattle.mds_core.specs.declared.request.Request.{Request}
use Rattle.mds_compact.specs.Compaction.{kept_of}
use Rattle.mds_compact.specs.Passes.{IsSurveyOf, IsThinningOf}
use Rattle.mds_retention.specs.Copying.{AreTotalsOf, IsMarkedBy}
use Rattle.mds_retention.specs.NewJournal.{IsMarksFault}
use Rattle.mds_retention.specs.Place.{IsTakenTo}
use Rattle.mds_retention.specs.Telling.{BeginsWith, IsAgainFault}
use Rattle.mds_retention.specs.declared.error.CompactError.TheVariants.{Old}
use Rattle.mds_retention.proofs.Telling.{begins_again}
use Rattle.mds_retention.proofs.new_journal.marked_by.Goals as goal

pub returns-clause-marks : goal.returns-clause-marks
returns-clause-marks g c = λ bytes is second third.
    let known = g.R.Read.remaining in
    let survey = c.in_ok-surveyed.ensures.survey in
    let history = survey.0 in
    let stays = c.in_ok-surveyed.surveyed.marks.items in
    let surveyed = survey.3 [] c.in_ok-cutting.ensures in
    let thinning = c.in_ok-thinning.thinning in
    let marked = c.in_ok-marked.marked in
    let same : c.as_slice-stays.result.now ≡ stays = search rules in
    let Thin : List Bool → Type 0 = λ stays. (bytes : List ℕ) (history : List Request) → known c.args.second ≡ Some bytes → BeginsWith bytes history → length stays ≡ length history
    → IsSurveyOf (kept_of stays history) c.in_ok-surveyed.surveyed.survey → IsThinningOf c.args.from (kept_of stays history) [] thinning in
    let Mark : List Bool → Type 0 = λ stays. (from : ℕ) (bytes : List ℕ) (history : List Request) → known c.args.third ≡ Some bytes → BeginsWith bytes history → length stays ≡ length history
    → IsThinningOf from (kept_of stays history) [] thinning → IsMarkedBy from (kept_of stays history) history marked.marks.items × AreTotalsOf history (kept_of marked.marks.items history) marked.totals in
    let thin = subst Thin same c.in_ok-thinning.ensures.thinning in
    let mark = subst Mark same c.in_ok-marked.ensures.marks in
    let Taken : Option (List ℕ) → Type 0 = λ one. IsTakenTo one history c.in_ok-surveyed.surveyed.place in
    let to = subst Taken is survey.1 in
    let taken = to.0 in
    let thinned = thin second.0 history second.1 (begins_again bytes second.0 history taken second.2) survey.2 surveyed.survey in
    let are = mark c.args.from third.0 history third.1 (begins_again bytes third.0 history taken third.2) survey.2 thinned in
    record { history = history; cut = kept_of stays history; taken = to; uncut = surveyed.cutting.left; marked = are.0; totals = are.1 }

pub returns-clause-count : goal.returns-clause-count
returns-clause-count g c =
    let survey = c.in_ok-surveyed.ensures.survey in
    let same : c.as_slice-stays.result.now ≡ c.in_ok-surveyed.surveyed.marks.items = search rules in
    (survey.0, survey.1.0, c.in_ok-marked.ensures.count ∙ ap length same ∙ survey.2)

pub returns-in_err-thinning-clause-fault : goal.returns-in_err-thinning-clause-fault
returns-in_err-thinning-clause-fault g c =
    let known = g.R.Read.remaining in
    let survey = c.in_ok-surveyed.ensures.survey in
    let same : c.as_slice-stays.result.now ≡ c.in_ok-surveyed.surveyed.marks.items = search rules in
    let Again : ℕ → Type 0 = λ n. IsAgainFault (known c.args.second) n c.in_err-thinning.field-0.0 in
    let fault : IsMarksFault (known c.args.first) (known c.args.second) (known c.args.third) (Old c.in_err-thinning.field-0.0) =
    inr (survey.0, survey.1.0, inl (subst Again (ap length same ∙ survey.2) c.in_err-thinning.ensures.fault)) in
    search rules

pub returns-in_err-marked-clause-fault : goal.returns-in_err-marked-clause-fault
returns-in_err-marked-clause-fault g c =
    let known = g.R.Read.remaining in
    let survey = c.in_ok-surveyed.ensures.survey in
    let same : c.as_slice-stays.result.now ≡ c.in_ok-surveyed.surveyed.marks.items = search rules in
    let Again : ℕ → Type 0 = λ n. IsAgainFault (known c.args.third) n c.in_err-marked.field-0.0 in
    let fault : IsMarksFault (known c.args.first) (known c.args.second) (known c.args.third) (Old c.in_err-marked.field-0.0) =
    inr (survey.0, survey.1.0, inr (subst Again (ap length same ∙ survey.2) c.in_err-marked.ensures.fault)) in
    search rules
