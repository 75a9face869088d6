-- The forms of a journal: its first lines, and the lines of its groups.
use Rattle.std.specs.Prelude.{◌≡◌, ◌≢◌, ℕ, ◌<◌, ◌^◌, List, [], ◌∷◌, ◌++◌, codes, All}
use Rattle.std.specs.List.{flat_map}
use Rattle.mds_journal.specs.Lines.{open_lines}
use Rattle.mds_check.specs.Crc.{crc32}
use Rattle.mds_check.specs.Form.{check_text, IsText, laid_out}
use Rattle.mds_entries.specs.Form.{form_line}
use Rattle.mds_groups.specs.declared.form.JournalForm.{JournalForm}
use Rattle.mds_groups.specs.declared.form.JournalForm.TheVariants.{Plain, Checked}

-- the first line names the form, and its version
abbrev pub first_line : JournalForm → List ℕ
first_line Plain = form_line
first_line Checked = codes "{\"form\":\"mds_city\",\"version\":2}"

-- the line behind some texts that is their check
abbrev pub check_of : List (List ℕ) → List ℕ
check_of texts = check_text (crc32 (open_lines texts))

-- the lines before the first group: where groups are checked, the first line has a check of its own
abbrev pub header : JournalForm → List (List ℕ)
header Plain = first_line Plain ∷ []
header Checked = first_line Checked ∷ check_of (first_line Checked ∷ []) ∷ []

-- the texts of some groups
abbrev pub texts_in : List (List (List ℕ)) → List (List ℕ)
texts_in groups = flat_map (λ group. group) groups

-- the lines of some groups: where they are checked, behind the texts of each stands its check
abbrev pub lines_of : JournalForm → List (List (List ℕ)) → List (List ℕ)
lines_of Plain groups = texts_in groups
lines_of Checked groups = laid_out groups

-- a text that is no check: where groups are checked, its length alone says so
abbrev pub IsEntry : JournalForm → List ℕ → Type 0
IsEntry Plain text = (check : ℕ) → check < 2 ^ 32 → text ≢ check_text check
IsEntry Checked text = IsText text

-- these are the lines of a journal of this form with these groups, whole ones
pub record IsJournal (form : JournalForm) (lines : List (List ℕ)) (groups : List (List (List ℕ)))
    : Type 0 where
  pub lines_are : lines ≡ header form ++ lines_of form groups
  pub texts_are : All (All (IsEntry form)) groups

-- the lines of a group of texts: where groups are checked, their check is the last
abbrev pub group_lines : JournalForm → List (List ℕ) → List (List ℕ)
group_lines Plain texts = texts
group_lines Checked texts = texts ++ check_of texts ∷ []

-- the lines by which a group of texts is written: none where there are no texts
abbrev pub ended : JournalForm → List (List ℕ) → List (List ℕ)
ended form [] = []
ended form (text ∷ texts) = group_lines form (text ∷ texts)
