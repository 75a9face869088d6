-- What is found of a journal that was changed.
use Rattle.std.proofs.Common.{◌≡◌, ◌≢◌, ℕ, List, [], ◌∷◌, ◌++◌, get_or, All, refl, sym, ap, ◌∙◌, subst, arith}
use Rattle.std.proofs.lemmas.List.Elements.{All-nil, All-cons, All-head}
use Rattle.mds_journal.specs.Lines.{open_lines, recovered_texts}
use Rattle.mds_check.specs.Crc.{after_bit, after_bits, after_byte, crc32}
use Rattle.mds_check.specs.Form.{IsText, laid_out, IsChecked}
use Rattle.mds_check.specs.Laws.{IsByte}
use Rattle.mds_check.proofs.GroupLemmas.{laid_out_checked}
use Rattle.mds_check.proofs.LawLemmas.{file_lines, line_found, with_no_feed}
use Rattle.mds_groups.specs.Form.{check_of, first_line, texts_in, IsEntry, IsJournal}
use Rattle.mds_groups.specs.Laws.{ChangedJournalsAreFound}
use Rattle.mds_groups.specs.declared.form.JournalForm.{JournalForm}
use Rattle.mds_groups.specs.declared.form.JournalForm.TheVariants.{Plain, Checked}
use Rattle.mds_groups.proofs.JournalLemmas.{all_texts}

-- the first line of a checked journal is a text
first_is_text : IsText (first_line Checked)
first_is_text is = absurd (cc is)

-- the lines of a checked journal are whole groups, the first line's own among them
pub journal_checked : (lines : List (List ℕ)) (groups : List (List (List ℕ))) → IsJournal Checked lines groups → IsChecked lines
journal_checked lines groups journal =
    subst IsChecked (sym journal.lines_are)
    (laid_out_checked ((first_line Checked ∷ []) ∷ groups)
    (All-cons (All IsText) (first_line Checked ∷ []) groups (All-cons IsText (first_line Checked) [] first_is_text (All-nil IsText)) journal.texts_are))

-- the check of the first line, as a number
form_crc : crc32 (open_lines (first_line Checked ∷ [])) ≡ 0x033C_3350
unfolding after_bit after_bits after_byte
form_crc = refl

-- no journal without checks has a check
no_plain : (after : List (List ℕ)) (others : List (List (List ℕ))) (more : List (List ℕ)) → All (All (IsEntry Plain)) others → after ≡ texts_in others
    → after ≡ check_of (first_line Checked ∷ []) ∷ more → ⊥
no_plain after others more are is checked =
    let entries : All (IsEntry Plain) (check_of (first_line Checked ∷ []) ∷ more) = subst (All (IsEntry Plain)) (sym is ∙ checked) (all_texts (IsEntry Plain) others are) in
    All-head (IsEntry Plain) (check_of (first_line Checked ∷ [])) more entries (crc32 (open_lines (first_line Checked ∷ []))) (omega (arith, form_crc)) refl

-- the forms have other first lines: the digit of the version is another
pub forms_differ : first_line Checked ≡ first_line Plain → ⊥
forms_differ same =
    let digits : 50 ≡ 49 = ap (λ (w : List ℕ). get_or w 29 0) same in
    absurd (omega (arith, digits))

-- lines that differ in one of them aren't those of journals of both forms
not_of_both : (before after : List (List ℕ)) (one two : List ℕ) (groups others : List (List (List ℕ)))
    → IsJournal Checked (before ++ one ∷ after) groups → IsJournal Plain (before ++ two ∷ after) others → ⊥
not_of_both [] after one two groups others checked plain =
    let first : after ≡ check_of (first_line Checked ∷ []) ∷ laid_out groups = cc checked.lines_are in
    let second : after ≡ texts_in others = cc plain.lines_are in
    no_plain after others (laid_out groups) plain.texts_are second first
not_of_both (line ∷ before) after one two groups others checked plain =
    let first : line ≡ first_line Checked = cc checked.lines_are in
    let second : line ≡ first_line Plain = cc plain.lines_are in
    forms_differ (sym first ∙ second)

-- lines that differ in one byte of one of them aren't those of two journals, if one of these is checked
lines_found : (form : JournalForm) (groups others : List (List (List ℕ))) (before after : List (List ℕ)) (front back : List ℕ) (x y : ℕ) → IsByte x → IsByte y → x ≢ y
    → IsJournal Checked (before ++ (front ++ x ∷ back) ∷ after) groups → IsJournal form (before ++ (front ++ y ∷ back) ∷ after) others → ⊥
lines_found Plain groups others before after front back x y first second other one two =
    not_of_both before after (front ++ x ∷ back) (front ++ y ∷ back) groups others one two
lines_found Checked groups others before after front back x y first second other one two =
    line_found before after front back x y first second other
    (journal_checked (before ++ (front ++ x ∷ back) ∷ after) groups one)
    (journal_checked (before ++ (front ++ y ∷ back) ∷ after) others two)

pub changed_journals_are_found : ChangedJournalsAreFound
changed_journals_are_found form groups others before front back rest x y none ahead behind x_other y_other first second other one two =
    lines_found form groups others before (recovered_texts rest) front back x y first second other
    (subst (λ (w : List (List ℕ)). IsJournal Checked w groups) (file_lines before front back rest x none (with_no_feed front back x ahead behind x_other)) one)
    (subst (λ (w : List (List ℕ)). IsJournal form w others) (file_lines before front back rest y none (with_no_feed front back y ahead behind y_other)) two)
