-- What a new journal has of one to which lines were added.
use Rattle.std.proofs.Common.{◌≡◌, ◌∙◌, ℕ, List, [], ◌++◌, length, Bool, Option, Some, None, inl, inr, refl, sym, ap, subst, append_assoc, append-nil}
use Rattle.std.specs.List.{AllZip}
use Rattle.mds_core.specs.declared.request.Request.{Request}
use Rattle.mds_core.specs.History.{requests_of}
use Rattle.mds_compact.specs.Compaction.{kept_of, IsCompacted, IsCompaction}
use Rattle.mds_compact.specs.Cutting.{IsCutBy}
use Rattle.mds_compact.proofs.Cuts.{lawful_tail}
use Rattle.mds_entries.specs.Entry.{Tells}
use Rattle.mds_file.specs.Followed.{Grows}
use Rattle.mds_groups.specs.Form.{texts_in}
use Rattle.mds_journal.specs.Lines.{recovered_texts}
use Rattle.mds_retention.specs.declared.draft.Draft.{Draft}
use Rattle.mds_retention.specs.declared.error.CompactError.{CompactError}
use Rattle.mds_retention.specs.declared.error.CompactError.TheVariants.{Old, New, NotThere}
use Rattle.mds_retention.specs.declared.compacting.Readings.{Readings}
use Rattle.mds_retention.specs.declared.passes.Totals.{Totals}
use Rattle.mds_retention.specs.declared.place.Place.{Place}
use Rattle.mds_retention.specs.declared.rest.Reached.{Reached}
use Rattle.mds_retention.specs.Compacting.{IsCompactFault, IsReadAgain, IsWriteFault}
use Rattle.mds_retention.specs.Copying.{AreTotalsOf, HasKept, IsCompactionOf, IsCopyFault}
use Rattle.mds_retention.specs.Draft.{IsDraftOf}
use Rattle.mds_retention.specs.NewJournal.{HasSince, IsFirstOf, IsFollowedTo, IsGoneOn, IsMarksFault, IsNewJournal}
use Rattle.mds_retention.specs.Place.{Begins, HasAll, IsPlaceOf}
use Rattle.mds_retention.specs.Rest.{IsEndFault}
use Rattle.mds_retention.specs.Telling.{IsFileOf, IsTaken}
use Rattle.mds_retention.proofs.Journals.{compaction_of, file_taken, kept_first}
use Rattle.mds_retention.proofs.Telling.{zip_append}

-- where nothing is cut, a compaction of what the cuts leave is one of all
pub uncut : (from : ℕ) (old cut new : List Request) → IsCutBy [] old cut → IsCompaction from cut new → IsCompaction from old new
uncut from old cut new front compaction = λ key. subst (λ all. IsCompacted from all (requests_of new key)) (front key) (compaction key)

-- texts of a journal that tell a compaction, and those that came since
abbrev pub gone_of : (from : ℕ) (first last : List ℕ) (kept : List (List ℕ)) (made : IsCompactionOf from [] first kept) (rest : List (List ℕ)) (tail : List Request) (place : Place) → AllZip Tells rest tail
    → HasAll (Some last) (texts_in made.before.groups ++ rest) place → IsGoneOn from first last
gone_of from first last kept made rest tail place told all = record {
  kept = kept;
  made = made;
  rest = rest;
  tail = tail;
  told = told;
  before = record {
    form = place.form;
    lines = all.lines;
    groups = all.groups;
    counted = all.counted;
    journal = all.is.journal;
    told = subst (λ (w : List (List ℕ)). AllZip Tells w (made.old ++ tail)) (sym all.told) (zip_append (texts_in made.before.groups) rest made.old tail made.before.told told);
  };
  all = all.told;
  lawful = λ tables lawful. lawful_tail tables from made.old made.new tail lawful (uncut from made.old made.cut made.new made.front made.compaction);
}

-- what was known since goes on to be known
pub since_on : (first : List ℕ) (was now : Option (List ℕ)) → HasSince first was → Grows was now → HasSince first now
since_on first None now since grows = absurd (cc since.1)
since_on first (Some bytes) None since grows = absurd grows
since_on first (Some bytes) (Some last) since grows =
    let same : bytes ≡ since.0 = cc since.1 in
    (last, refl, (since.2.0 ++ grows.0, grows.1 ∙ ap (λ all. recovered_texts all ++ grows.0) same ∙ ap (λ texts. texts ++ grows.0) since.2.1 ∙ append_assoc (recovered_texts first) since.2.0 grows.0))

-- so known bytes begin with the first lines
since_begins : (first : List ℕ) (lines : List (List ℕ)) (now : Option (List ℕ)) → recovered_texts first ≡ lines → HasSince first now → Begins lines now
since_begins first lines now is since = subst (λ (w : List (List ℕ)). Begins w now) is (subst (λ known. Begins (recovered_texts first) known) (sym since.1) since.2)

-- they begin with the lines that they had
grown_begins : (was : List ℕ) (lines : List (List ℕ)) (now : Option (List ℕ)) → recovered_texts was ≡ lines → Grows (Some was) now → Begins lines now
grown_begins was lines None is grows = absurd grows
grown_begins was lines (Some last) is grows = subst (λ (w : List (List ℕ)). Begins w (Some last)) is grows

-- where it can't be told what stays, a journal can't be compacted
pub marks_fault : {R : Type 0} (remaining : R → Option (List ℕ)) (old : Readings R) (error : CompactError) → IsMarksFault (remaining old.first) (remaining old.second) (remaining old.third) error
    → IsCompactFault remaining old [] error
marks_fault remaining old (Old error) (inl first) = inl first
marks_fault remaining old (Old error) (inr (history, told, inl second)) = inr (history, told, inl second)
marks_fault remaining old (Old error) (inr (history, told, inr third)) = inr (history, told, inr (inl third))
marks_fault remaining old (New fault) why = tt
marks_fault remaining old NotThere why = absurd why

-- nor can one where the texts that stay can't be written
pub write_fault : {R : Type 0} (remaining : R → Option (List ℕ)) (old : Readings R) (history : List Request) (count : ℕ) (error : CompactError) → IsTaken (remaining old.first) history
    → count ≡ length history → IsWriteFault (remaining old.fourth) count error → IsCompactFault remaining old [] error
write_fault remaining old history count (Old error) told is why = inr (history, told, inr (inr (subst (λ n. IsCopyFault n (remaining old.fourth) error) is why)))
write_fault remaining old history count (New fault) told is why = tt
write_fault remaining old history count NotThere told is why = absurd why

-- what can't be read on behind a place can't where so much is known
abbrev pub Stops : Option (List ℕ) → Place → CompactError → Type 0
Stops now place error =
    (lines : List (List ℕ)) (groups : List (List (List ℕ))) (history : List Request) → Begins lines now → IsPlaceOf lines groups place → AllZip Tells (texts_in groups) history → IsEndFault now error

-- where a new journal can't be read on as soon as it has what stays of the first lines, the old one has the fault
pub begin_fault : (from : ℕ) (bytes : List ℕ) (was now : Option (List ℕ)) (marks : List Bool) (reached : Reached) (error : CompactError) → IsFirstOf from bytes marks reached → HasSince bytes was → Grows was now
    → Stops now reached.place error → IsEndFault now error
begin_fault from bytes was now marks reached error first since grows stops =
    let taken = first.taken.0 in
    stops taken.lines taken.groups first.history (since_begins bytes taken.lines now taken.counted (since_on bytes was now since grows)) first.taken.1 taken.told

-- of a device: the bytes that a read returns, what a crash may leave, and whether all answers so far were those of a disk that keeps what it is given
module _ {D : Type 0} (seen : D → List ℕ) (may_leave : D → List ℕ → Type 0) (is_true : D → Type 0) where
  -- what was read on behind a place, into a draft
  abbrev pub ReadsOn : Option (List ℕ) → Reached → Reached → Draft D → Draft D → Type 0
  ReadsOn now reached next was draft =
      (rest : List (List ℕ)) × (tail : List Request) × AllZip Tells rest tail
      × ((lines : List (List ℕ)) (groups : List (List (List ℕ))) → Begins lines now → IsPlaceOf lines groups reached.place → HasAll now (texts_in groups ++ rest) next.place)
      × ((old new : List Request) → AreTotalsOf old new reached.totals → AreTotalsOf (old ++ tail) (new ++ tail) next.totals)
      × ((texts : List (List ℕ)) → IsDraftOf seen may_leave is_true texts was → IsDraftOf seen may_leave is_true (texts ++ rest) draft)

  -- a new journal goes on
  pub journal_on : (from : ℕ) (first : List ℕ) (was now : Option (List ℕ)) (reached next : Reached) (before draft : Draft D) → Grows was now → ReadsOn now reached next before draft
      → IsNewJournal seen may_leave is_true from first was (record { draft = before; reached = reached }) → IsNewJournal seen may_leave is_true from first now (record { draft = draft; reached = next })
  journal_on from first None now reached next before draft grows reads journal = absurd (cc journal.1)
  journal_on from first (Some bytes) None reached next before draft grows reads journal = absurd grows
  journal_on from first (Some bytes) (Some last) reached next before draft grows reads journal =
      let same : bytes ≡ journal.0 = cc journal.1 in
      let on = journal.2 in
      let made = on.made in
      let lines_are : recovered_texts bytes ≡ on.before.lines = ap recovered_texts same ∙ on.before.counted in
      let all = reads.3 on.before.lines on.before.groups (grown_begins bytes on.before.lines (Some last) lines_are grows) journal.3 in
      let whole : HasAll (Some last) (texts_in made.before.groups ++ (on.rest ++ reads.0)) next.place =
      subst (λ (w : List (List ℕ)). HasAll (Some last) w next.place) (ap (λ (w : List (List ℕ)). w ++ reads.0) on.all ∙ append_assoc (texts_in made.before.groups) on.rest reads.0) all in
      let tail = on.tail ++ reads.1 in
      let gone = gone_of from first last on.kept made (on.rest ++ reads.0) tail next.place (zip_append on.rest reads.0 on.tail reads.1 on.told reads.2) whole in
      let totals = reads.4 (made.old ++ on.tail) (made.new ++ on.tail) journal.4 in (
        last,
        refl,
        gone,
        whole.is,
        subst (λ (w : List Request). AreTotalsOf w (made.new ++ tail) next.totals) (append_assoc made.old on.tail reads.1)
            (subst (λ (w : List Request). AreTotalsOf ((made.old ++ on.tail) ++ reads.1) w next.totals) (append_assoc made.new on.tail reads.1) totals),
        subst (λ (w : List (List ℕ)). IsDraftOf seen may_leave is_true w draft) (append_assoc on.kept on.rest reads.0) (reads.5 (on.kept ++ on.rest) journal.5),
      )

  -- what stays of the first lines is there
  first_made : (from : ℕ) (bytes : List ℕ) (known : Option (List ℕ)) (marks : List Bool) (reached : Reached) (kept : List (List ℕ)) (draft : Draft D) → IsFirstOf from bytes marks reached
      → IsReadAgain bytes known → HasKept known marks kept → IsDraftOf seen may_leave is_true kept draft → IsNewJournal seen may_leave is_true from bytes (Some bytes) (record { draft = draft; reached = reached })
  first_made from bytes known marks reached kept draft first again has drafted =
      let taken = first.taken.0 in
      let history = first.history in
      let texts = kept_of marks (texts_in taken.groups) in
      let made = compaction_of from [] bytes history first.cut marks taken first.uncut first.marked in
      let kept_is : kept ≡ texts = kept_first bytes again.0 known history marks kept taken again.1 again.2 first.marked.count has in
      let all : HasAll (Some bytes) (texts_in taken.groups ++ []) reached.place =
      record { lines = taken.lines; groups = taken.groups; counted = taken.counted; is = first.taken.1; told = sym (append-nil (texts_in taken.groups)) } in
      let gone = gone_of from bytes bytes texts made [] [] reached.place tt all in (
        bytes,
        refl,
        gone,
        first.taken.1,
        subst (λ (w : List Request). AreTotalsOf w (made.new ++ []) reached.totals) (sym (append-nil history))
            (subst (λ (w : List Request). AreTotalsOf history w reached.totals) (sym (append-nil made.new)) first.totals),
        subst (λ (w : List (List ℕ)). IsDraftOf seen may_leave is_true w draft) (kept_is ∙ sym (append-nil texts)) drafted,
      )

  -- a new journal is begun
  pub begun : (from : ℕ) (bytes : List ℕ) (known was now : Option (List ℕ)) (marks : List Bool) (reached next : Reached) (kept : List (List ℕ)) (before draft : Draft D) → IsFirstOf from bytes marks reached
      → IsReadAgain bytes known → HasKept known marks kept → IsDraftOf seen may_leave is_true kept before → HasSince bytes was → Grows was now → ReadsOn now reached next before draft
      → IsNewJournal seen may_leave is_true from bytes now (record { draft = draft; reached = next })
  begun from bytes known was now marks reached next kept before draft first again has drafted since grows reads =
      let after = since_on bytes was now since grows in
      let grown : Grows (Some bytes) now = subst (Grows (Some bytes)) (sym after.1) after.2 in
      journal_on from bytes (Some bytes) now reached next before draft grown reads (first_made from bytes known marks reached kept before first again has drafted)

  -- it can't go on
  pub journal_fault : (from : ℕ) (first : List ℕ) (was now : Option (List ℕ)) (reached : Reached) (before : Draft D) (error : CompactError) → Grows was now → Stops now reached.place error
      → IsNewJournal seen may_leave is_true from first was (record { draft = before; reached = reached }) → IsEndFault now error
  journal_fault from first None now reached before error grows stops journal = absurd (cc journal.1)
  journal_fault from first (Some bytes) now reached before error grows stops journal =
      let same : bytes ≡ journal.0 = cc journal.1 in
      let on = journal.2 in
      stops on.before.lines on.before.groups (on.made.old ++ on.tail) (grown_begins bytes on.before.lines now (ap recovered_texts same ∙ on.before.counted) grows) journal.3 on.before.told

-- all that it is to have is in its file
pub followed_to : (from : ℕ) (first last out : List ℕ) (totals : Totals) (on : IsGoneOn from first last) → AreTotalsOf (on.made.old ++ on.tail) (on.made.new ++ on.tail) totals
    → IsFileOf (on.kept ++ on.rest) out → IsFollowedTo from first last totals out
followed_to from first last out totals on counted file = (
  record { on = on; file = file; after = file_taken (on.kept ++ on.rest) out (on.made.new ++ on.tail) file (zip_append on.kept on.rest on.made.new on.tail on.made.told on.told) },
  counted,
)
