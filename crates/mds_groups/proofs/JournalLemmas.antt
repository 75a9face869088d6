-- Lines of whole groups, and groups put behind them.
use Rattle.std.proofs.Common.{◌≡◌, ℕ, List, [], ◌∷◌, ◌++◌, length, All, refl, sym, ap, ◌∙◌, subst, append_assoc}
use Rattle.std.proofs.lemmas.List.{append-nil, append_cancel_left}
use Rattle.std.proofs.lemmas.List.Concat.{flat_map-append}
use Rattle.std.proofs.lemmas.List.Elements.{All-nil, All-head, All-tail, All-append, All-push, All-weaker}
use Rattle.mds_check.specs.Form.{IsText, laid_out, groups_of}
use Rattle.mds_check.proofs.FormLemmas.{check_text-length}
use Rattle.mds_check.proofs.GroupLemmas.{groups_read_back}
use Rattle.mds_groups.specs.Form.{check_of, group_lines, header, lines_of, texts_in, IsEntry, IsJournal}
use Rattle.mds_groups.specs.Laws.{JournalsBegin, JournalsGoOn, JournalsTellOnce}
use Rattle.mds_groups.specs.declared.form.JournalForm.{JournalForm}
use Rattle.mds_groups.specs.declared.form.JournalForm.TheVariants.{Plain, Checked}

pub journals_begin : JournalsBegin
journals_begin Plain = record { lines_are = refl; texts_are = All-nil (All (IsEntry Plain)) }
journals_begin Checked = record { lines_are = refl; texts_are = All-nil (All (IsEntry Checked)) }

-- the texts of groups and of one more
pub texts_more : (groups : List (List (List ℕ))) (texts : List (List ℕ)) → texts_in (groups ++ texts ∷ []) ≡ texts_in groups ++ texts
texts_more groups texts =
    flat_map-append (λ (group : List (List ℕ)). group) groups (texts ∷ [])
    ∙ ap (λ (w : List (List ℕ)). texts_in groups ++ w) (append-nil texts)

laid_more : (groups : List (List (List ℕ))) (texts : List (List ℕ)) → laid_out (groups ++ texts ∷ []) ≡ laid_out groups ++ group_lines Checked texts
laid_more [] texts = refl
laid_more (group ∷ groups) texts =
    ap (λ (w : List (List ℕ)). group ++ check_of group ∷ w) (laid_more groups texts)
    ∙ sym (append_assoc group (check_of group ∷ laid_out groups) (group_lines Checked texts))

-- their lines
pub lines_more : (form : JournalForm) (groups : List (List (List ℕ))) (texts : List (List ℕ))
    → lines_of form (groups ++ texts ∷ []) ≡ lines_of form groups ++ group_lines form texts
lines_more Plain groups texts = texts_more groups texts
lines_more Checked groups texts = laid_more groups texts

-- a journal, and one more group
pub journal_more : (form : JournalForm) (lines : List (List ℕ)) (groups : List (List (List ℕ))) (texts : List (List ℕ)) → IsJournal form lines groups
    → All (IsEntry form) texts → IsJournal form (lines ++ group_lines form texts) (groups ++ texts ∷ [])
journal_more form lines groups texts journal are = record {
  lines_are =
      ap (λ (w : List (List ℕ)). w ++ group_lines form texts) journal.lines_are
      ∙ append_assoc (header form) (lines_of form groups) (group_lines form texts)
      ∙ ap (λ (w : List (List ℕ)). header form ++ w) (sym (lines_more form groups texts));
  texts_are = All-push (All (IsEntry form)) groups texts journal.texts_are are;
}

text_is_entry : (form : JournalForm) (text : List ℕ) → IsText text → IsEntry form text
text_is_entry Plain text is = λ check small same. is (ap (λ (w : List ℕ). length w) same ∙ check_text-length check)
text_is_entry Checked text is = is

pub journals_go_on : JournalsGoOn
journals_go_on form lines texts [] tells are = record {
  groups = tells.groups;
  journal = subst (λ (w : List (List ℕ)). IsJournal form w tells.groups) (sym (append-nil lines)) tells.journal;
  told = tells.told ∙ sym (append-nil texts);
}
journals_go_on form lines texts (text ∷ more) tells are = record {
  groups = tells.groups ++ (text ∷ more) ∷ [];
  journal = journal_more form lines tells.groups (text ∷ more) tells.journal (All-weaker IsText (IsEntry form) (text_is_entry form) (text ∷ more) are);
  told = texts_more tells.groups (text ∷ more) ∙ ap (λ (w : List (List ℕ)). w ++ text ∷ more) tells.told;
}

pub journals_tell_once : JournalsTellOnce
journals_tell_once lines groups others one other =
    let same : laid_out groups ≡ laid_out others = append_cancel_left (header Checked) (laid_out groups) (laid_out others) (sym one.lines_are ∙ other.lines_are) in
    sym (groups_read_back groups one.texts_are) ∙ ap groups_of same ∙ groups_read_back others other.texts_are

-- the texts of groups are what each of them has
pub all_texts : (P : List ℕ → Type 0) (groups : List (List (List ℕ))) → All (All P) groups → All P (texts_in groups)
all_texts P [] are = All-nil P
all_texts P (group ∷ groups) are =
    All-append P group (texts_in groups) (All-head (All P) group groups are) (all_texts P groups (All-tail (All P) group groups are))
