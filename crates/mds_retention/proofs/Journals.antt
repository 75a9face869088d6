-- What the copied texts tell of what the file told.
use Rattle.std.proofs.Common.{◌≡◌, ◌∙◌, ℕ, inl, List, [], ◌∷◌, ◌++◌, length, Bool, true, false, Option, Some, None, refl, sym, ap, subst, arith, append-nil, length-append}
use Rattle.std.specs.List.{AllZip}
use Rattle.mds_core.specs.declared.request.Request.{Request}
use Rattle.mds_compact.specs.Compaction.{kept_of}
use Rattle.mds_compact.specs.Cutting.{IsCutBy}
use Rattle.mds_compact.specs.Passes.{IsThinningOf}
use Rattle.mds_compact.specs.declared.cutting.Cut.{Cut}
use Rattle.mds_compact.specs.declared.thinning.Thinning.{Thinning}
use Rattle.mds_entries.specs.Entry.{Tells}
use Rattle.mds_groups.specs.Form.{texts_in}
use Rattle.mds_groups.specs.declared.form.JournalForm.TheVariants.{Checked}
use Rattle.mds_journal.specs.Lines.{recovered_texts}
use Rattle.mds_retention.specs.declared.compacting.Readings.{Readings}
use Rattle.mds_retention.specs.declared.compacting.Compacted.{Compacted}
use Rattle.mds_retention.specs.declared.passes.Surveyed.{Surveyed}
use Rattle.mds_retention.specs.declared.error.CompactError.{CompactError}
use Rattle.mds_retention.specs.declared.error.CompactError.TheVariants.{Old, New, NotThere}
use Rattle.mds_retention.specs.declared.error.LinesError.{LinesError}
use Rattle.mds_retention.specs.Compacting.{AreReadings, IsCompactFault, IsCompactedTo, IsCutFault, StandsWhole}
use Rattle.mds_retention.specs.Telling.{Gives, HasFront, BeginsWith, HasTexts, IsFileOf, IsTaken, IsJournalFault}
use Rattle.mds_retention.specs.Copying.{AreTotalsOf, IsMarkedBy, IsSurveyed, HasKept, HasKeptIn, IsCompactedJournal, IsCompactionOf, cut_totals}
use Rattle.mds_retention.proofs.Fronts.{texts_front}
use Rattle.mds_retention.proofs.Telling.{told_count, begins_again}

-- the texts that are kept tell the requests that are
pub told_kept : (marks : List Bool) (entries : List (List ℕ)) (history : List Request) → AllZip Tells entries history → AllZip Tells (kept_of marks entries) (kept_of marks history)
told_kept [] entries history told = tt
told_kept (mark ∷ marks) [] [] told = tt
told_kept (mark ∷ marks) [] (request ∷ history) told = absurd told
told_kept (mark ∷ marks) (entry ∷ entries) [] told = absurd told
told_kept (true ∷ marks) (entry ∷ entries) (request ∷ history) told = (told.0, told_kept marks entries history told.1)
told_kept (false ∷ marks) (entry ∷ entries) (request ∷ history) told = told_kept marks entries history told.1

-- a journal with these texts, and no more, tells what they tell
pub file_taken : (texts : List (List ℕ)) (out : List ℕ) (history : List Request) → IsFileOf texts out → AllZip Tells texts history → IsTaken (Some out) history
file_taken texts out history file told =
    let Told : List (List ℕ) → Type 0 = λ (w : List (List ℕ)). AllZip Tells w history in
    record { form = Checked; lines = file.lines; groups = file.journal.groups; counted = file.counted; journal = file.journal.journal; told = subst Told (sym file.journal.told) told }

-- the marked texts tell a compaction of what cuts leave of what the lines of the file tell
abbrev pub compaction_of : (from : ℕ) (cuts : List Cut) (bytes : List ℕ) (history cut : List Request) (marks : List Bool) (taken : IsTaken (Some bytes) history) → IsCutBy cuts history cut
    → IsMarkedBy from cut history marks → IsCompactionOf from cuts bytes (kept_of marks (texts_in taken.groups))
compaction_of from cuts bytes history cut marks taken front marked = record {
  old = history;
  cut = cut;
  new = kept_of marks history;
  before = taken;
  told = told_kept marks (texts_in taken.groups) history taken.told;
  marks = marks;
  count = marked.count;
  copied = refl;
  stays = refl;
  front = front;
  compaction = marked.compaction;
  thin = marked.thin;
}

-- texts that begin with as many are these
front_all : (all some behind : List (List ℕ)) → all ≡ some ++ behind → length all ≡ length some → all ≡ some
front_all all some [] is count = is ∙ append-nil some
front_all all some (text ∷ behind) is count = absurd (omega (arith, count, ap (λ (w : List (List ℕ)). length w) is, length-append some (text ∷ behind)))

-- the texts that were kept of bytes to which lines were added are those of the first bytes
pub kept_first : (bytes again : List ℕ) (known : Option (List ℕ)) (history : List Request) (marks : List Bool) (kept : List (List ℕ)) (taken : IsTaken (Some bytes) history) → known ≡ Some again
    → HasFront (Some again) (recovered_texts bytes) → length marks ≡ length history → HasKept known marks kept → kept ≡ kept_of marks (texts_in taken.groups)
kept_first bytes again known history marks kept taken known_is front count has = of_left front.0 front.1 where
  of_left : (left : Option (List ℕ)) → Gives (Some again) (recovered_texts bytes) left → kept ≡ kept_of marks (texts_in taken.groups)
  of_left None given = absurd given
  of_left (Some rest) given =
      let all = texts_in taken.groups in
      let texts : HasTexts (Some again) has.0 = subst (λ (w : Option (List ℕ)). HasTexts w has.0) known_is has.1 in
      let as_many : length all ≡ length has.0 = omega (arith, told_count all history taken.told, count, has.2) in
      let begins = texts_front again has.0 taken.lines (recovered_texts rest) taken.form taken.groups texts (given ∙ ap (λ (w : List (List ℕ)). w ++ recovered_texts rest) taken.counted) taken.journal
      (omega (arith, as_many)) in
      has.3 ∙ ap (λ (w : List (List ℕ)). kept_of marks w) (sym (front_all all has.0 begins.0 begins.1 as_many))

-- what is kept of the fourth reading, by the marks of the third, is a compaction of what cuts leave of what the first one told
pub compacted_to : {R : Type 0} (remaining : R → Option (List ℕ)) (old : Readings R) (first : List ℕ) (from : ℕ) (cuts : List Cut) (history : List Request) (surveyed : Surveyed) (thinning : Thinning)
    (marks : List Bool) (compacted : Compacted) (found : Option (List ℕ)) → AreReadings remaining first old → IsTaken (remaining old.first) history → IsSurveyed cuts history surveyed
    → ((bytes : List ℕ) → remaining old.second ≡ Some bytes → BeginsWith bytes history → IsThinningOf from (kept_of surveyed.marks.items history) [] thinning)
    → ((bytes : List ℕ) → remaining old.third ≡ Some bytes → BeginsWith bytes history → IsThinningOf from (kept_of surveyed.marks.items history) [] thinning
    → IsMarkedBy from (kept_of surveyed.marks.items history) history marks × AreTotalsOf history (kept_of marks history) compacted.totals) → compacted.cuts.items ≡ cut_totals history cuts
    → StandsWhole (HasKeptIn (remaining old.fourth) marks) found → StandsWhole (IsCompactedTo from cuts first compacted) found
compacted_to remaining old first from cuts history surveyed thinning marks compacted found readings told is thin mark counted whole =
    let Taken : Option (List ℕ) → Type 0 = λ known. IsTaken known history in
    let taken = subst Taken readings.first told in
    let second = readings.second in
    let third = readings.third in
    let fourth = readings.fourth in
    let thinned = thin second.0 second.1 (begins_again first second.0 history taken second.2) in
    let marked = mark third.0 third.1 (begins_again first third.0 history taken third.2) thinned in
    let made = compaction_of from cuts first history (kept_of surveyed.marks.items history) marks taken is.cutting.left marked.0 in
    let has = whole.2 in
    let kept_is = kept_first first fourth.0 (remaining old.fourth) history marks has.0 taken fourth.1 fourth.2 marked.0.count has.1 in
    let file = subst (λ (w : List (List ℕ)). IsFileOf w whole.0) kept_is has.2 in
    let journal : IsCompactedJournal from cuts first whole.0 =
    record { kept = kept_of marks (texts_in taken.groups); made = made; file = file; after = file_taken (kept_of marks (texts_in taken.groups)) whole.0 made.new file made.told } in
    (whole.0, whole.1, (journal, marked.1, counted))

-- why it can't be told how many events vehicles have is why a journal isn't compacted
pub cut_fault : {R : Type 0} (remaining : R → Option (List ℕ)) (old : Readings R) (cuts : List Cut) (history : List Request) (error : CompactError) → IsTaken (remaining old.first) history
    → IsCutFault history cuts error → IsCompactFault remaining old cuts error
cut_fault remaining old cuts history (Old error) told why = let Is : LinesError → Type 0 = λ one. IsJournalFault (remaining old.first) one in inl (subst Is (sym why) tt)
cut_fault remaining old cuts history (New fault) told why = tt
cut_fault remaining old cuts history NotThere told why = (history, told, why)
