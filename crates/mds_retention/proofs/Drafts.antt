-- What a draft has as it goes on, and once it was written.
use Rattle.std.proofs.Common.{◌≡◌, ◌∙◌, ℕ, List, [], ◌∷◌, ◌++◌, All, refl, sym, ap, subst, append_assoc, append-nil}
use Rattle.std.proofs.lemmas.List.Elements.{All-nil, All-cons, All-append, All-push}
use Rattle.mds_check.specs.Crc.{crc32}
use Rattle.mds_check.specs.Form.{IsText}
use Rattle.mds_check.proofs.FormLemmas.{check_text-no_feed}
use Rattle.mds_groups.specs.Form.{check_of, ended, first_line, header}
use Rattle.mds_groups.specs.Laws.{TellsTexts}
use Rattle.mds_groups.specs.declared.form.JournalForm.TheVariants.{Checked}
use Rattle.mds_groups.proofs.JournalLemmas.{journals_begin, journals_go_on}
use Rattle.mds_journal.specs.Device.{Only}
use Rattle.mds_journal.specs.Lines.{HasNoFeed, open_lines}
use Rattle.mds_journal.proofs.LineLemmas.{open_lines-append, recovered_is}
use Rattle.mds_retention.specs.declared.draft.Draft.{Draft}
use Rattle.mds_retention.specs.Draft.{HasBytes, IsDraftOf, IsWritten}
use Rattle.mds_retention.specs.Telling.{IsFileOf}

-- lines more that wait are more of all bytes
drafted_more : (bytes written page new lines : List ℕ) → bytes ≡ written ++ page → new ≡ page ++ lines → bytes ++ lines ≡ written ++ new
drafted_more bytes written page new lines is more = ap (λ all. all ++ lines) is ∙ append_assoc written page lines ∙ ap (λ rest. written ++ rest) (sym more)

-- the lines of a group have no line feed within
ended_free : (texts : List (List ℕ)) → All HasNoFeed texts → All HasNoFeed (ended Checked texts)
ended_free [] free = All-nil HasNoFeed
ended_free (text ∷ texts) free = All-push HasNoFeed (text ∷ texts) (check_of (text ∷ texts)) free (check_text-no_feed (crc32 (open_lines (text ∷ texts))))

module _ {D : Type 0} (seen : D → List ℕ) (may_leave : D → List ℕ → Type 0) (is_true : D → Type 0) (old new : Draft D) (same_file : new.file ≡ old.file) (same_size : new.size ≡ old.size) where
  -- lines more wait
  pub bytes_more : (bytes lines : List ℕ) → new.page.items ≡ old.page.items ++ lines → HasBytes seen may_leave is_true bytes old → HasBytes seen may_leave is_true (bytes ++ lines) new
  bytes_more bytes lines page was = λ truth.
      let of = was (subst is_true same_file truth) in (
        of.0,
        drafted_more bytes of.0 old.page.items new.page.items lines of.1 page,
        of.2 ∙ sym same_size,
        ap seen same_file ∙ of.3,
        subst (λ (file : D). Only of.0 (may_leave file)) (sym same_file) of.4,
      )

  -- the lines before the first group were laid out
  pub begun : (first : List ℕ) (group : List (List ℕ)) → first ≡ first_line Checked → HasNoFeed first → group ≡ [] ++ first ∷ [] → new.page.items ≡ old.page.items ++ open_lines (ended Checked group)
      → new.group ≡ [] → HasBytes seen may_leave is_true [] old → IsDraftOf seen may_leave is_true [] new
  begun first group is free group_is page none was =
      let header_is : ended Checked group ≡ header Checked = ap (ended Checked) group_is ∙ ap (λ (w : List ℕ). ended Checked (w ∷ [])) is in
      let bytes = bytes_more [] (open_lines (ended Checked group)) page was in
      record {
        lines = header Checked;
        whole = [];
        journal = record { groups = []; journal = journals_begin Checked; told = refl };
        free = subst (All HasNoFeed) header_is (subst (λ (w : List (List ℕ)). All HasNoFeed (ended Checked w)) (sym group_is) (ended_free (first ∷ []) (All-cons HasNoFeed first [] free (All-nil HasNoFeed))));
        begun = subst (All IsText) (sym none) (All-nil IsText);
        begun_free = subst (All HasNoFeed) (sym none) (All-nil HasNoFeed);
        all = sym none;
        bytes = subst (λ (w : List (List ℕ)). HasBytes seen may_leave is_true (open_lines w) new) header_is bytes;
      }

  -- the group that was begun is ended
  pub group_ended : (texts : List (List ℕ)) → new.page.items ≡ old.page.items ++ open_lines (ended Checked old.group) → new.group ≡ [] → IsDraftOf seen may_leave is_true texts old
      → IsDraftOf seen may_leave is_true texts new
  group_ended texts page none was =
      let lines = ended Checked old.group in
      record {
        lines = was.lines ++ lines;
        whole = was.whole ++ old.group;
        journal = journals_go_on Checked was.lines was.whole old.group was.journal was.begun;
        free = All-append HasNoFeed was.lines lines was.free (ended_free old.group was.begun_free);
        begun = subst (All IsText) (sym none) (All-nil IsText);
        begun_free = subst (All HasNoFeed) (sym none) (All-nil HasNoFeed);
        all = was.all ∙ sym (append-nil (was.whole ++ old.group)) ∙ ap (λ (w : List (List ℕ)). (was.whole ++ old.group) ++ w) (sym none);
        bytes = subst (λ (w : List ℕ). HasBytes seen may_leave is_true w new) (sym (open_lines-append was.lines lines)) (bytes_more (open_lines was.lines) (open_lines lines) page was.bytes);
      }

  -- it has one text more
  pub text_more : (texts : List (List ℕ)) (text : List ℕ) → new.page ≡ old.page → new.group ≡ old.group ++ text ∷ [] → IsText text → HasNoFeed text → IsDraftOf seen may_leave is_true texts old
      → IsDraftOf seen may_leave is_true (texts ++ text ∷ []) new
  text_more texts text page group is free was = record {
    lines = was.lines;
    whole = was.whole;
    journal = was.journal;
    free = was.free;
    begun = subst (All IsText) (sym group) (All-push IsText old.group text was.begun is);
    begun_free = subst (All HasNoFeed) (sym group) (All-push HasNoFeed old.group text was.begun_free free);
    all = ap (λ (w : List (List ℕ)). w ++ text ∷ []) was.all ∙ append_assoc was.whole old.group (text ∷ []) ∙ ap (λ (w : List (List ℕ)). was.whole ++ w) (sym group);
    bytes = subst (λ (w : List ℕ). HasBytes seen may_leave is_true w new) (append-nil (open_lines was.lines))
        (bytes_more (open_lines was.lines) [] (ap (λ page. page.items) page ∙ sym (append-nil old.page.items)) was.bytes);
  }

module _ {D : Type 0} (seen : D → List ℕ) (may_leave : D → List ℕ → Type 0) (is_true : D → Type 0) where
  -- the lines that waited were written
  pub bytes_written : (texts : List (List ℕ)) (old new : Draft D) → ((bytes : List ℕ) → HasBytes seen may_leave is_true bytes old → HasBytes seen may_leave is_true bytes new) → new.group ≡ old.group
      → IsDraftOf seen may_leave is_true texts old → IsDraftOf seen may_leave is_true texts new
  bytes_written texts old new written group was = record {
    lines = was.lines;
    whole = was.whole;
    journal = was.journal;
    free = was.free;
    begun = subst (All IsText) (sym group) was.begun;
    begun_free = subst (All HasNoFeed) (sym group) was.begun_free;
    all = was.all ∙ ap (λ (w : List (List ℕ)). was.whole ++ w) (sym group);
    bytes = written (open_lines was.lines) was.bytes;
  }

  -- once nothing waits, any crash leaves a journal with all texts
  pub all_written : (texts : List (List ℕ)) (draft : Draft D) → draft.page.items ≡ [] → draft.group ≡ [] → IsDraftOf seen may_leave is_true texts draft
      → (out : List ℕ) × IsFileOf texts out × IsWritten may_leave is_true out draft
  all_written texts draft none no_group drafted =
      let out = open_lines drafted.lines in
      let whole : drafted.whole ≡ texts = sym (drafted.all ∙ ap (λ (w : List (List ℕ)). drafted.whole ++ w) no_group ∙ append-nil drafted.whole) in (
        out,
        record {
          lines = drafted.lines;
          journal = subst (TellsTexts Checked drafted.lines) whole drafted.journal;
          bytes_are = refl;
          counted = recovered_is out [] drafted.lines drafted.free (sym (append-nil out)) refl;
        },
        λ truth c leaves.
            let of = drafted.bytes truth in
            of.4 c leaves ∙ sym (of.1 ∙ ap (λ (w : List ℕ). of.0 ++ w) none ∙ append-nil of.0),
      )
