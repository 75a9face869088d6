-- What stands behind the closed gate of a journal.
use Rattle.std.specs.Prelude.{◌≡◌, ◌≢◌, ℕ, List, [], ◌++◌, All}
use Rattle.mds_journal.specs.Lines.{lines_behind}
use Rattle.mds_check.specs.Form.{IsText}
use Rattle.mds_groups.specs.Form.{group_lines}
use Rattle.mds_groups.specs.declared.form.JournalForm.{JournalForm}
use Rattle.mds_groups.specs.declared.form.JournalForm.TheVariants.{Checked}

-- lines are a whole group of these texts, whose check fits, and then these
pub record BeginWithGroup (lines texts more : List (List ℕ)) : Type 0 where
  pub are : All IsText texts
  pub split : lines ≡ group_lines Checked texts ++ more

-- behind the gate stands a whole group of these texts, and no open line behind that: it wasn't
-- opened
abbrev pub IsUnopened : JournalForm → List ℕ → List (List ℕ) → Type 0
IsUnopened form bytes texts = (form ≡ Checked) × BeginWithGroup (lines_behind bytes) texts []

-- behind the gate stands a whole group, and an open line behind that: so it counted once
abbrev pub CountedOnce : JournalForm → List ℕ → Type 0
CountedOnce form bytes =
    (form ≡ Checked)
    × ((texts : List (List ℕ)) × (more : List (List ℕ))
    × BeginWithGroup (lines_behind bytes) texts more × (more ≢ []))
