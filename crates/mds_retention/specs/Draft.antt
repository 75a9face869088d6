-- Which bytes a new file has while it is written.
use Rattle.std.specs.Prelude.{◌≡◌, ℕ, List, ◌++◌, length, All}
use Rattle.mds_check.specs.Form.{IsText}
use Rattle.mds_groups.specs.Laws.{TellsTexts}
use Rattle.mds_groups.specs.declared.form.JournalForm.TheVariants.{Checked}
use Rattle.mds_journal.specs.Device.{Only}
use Rattle.mds_journal.specs.Lines.{HasNoFeed, open_lines}
use Rattle.mds_retention.specs.declared.draft.Draft.{Draft}

-- of a device: the bytes that a read returns, what a crash may leave, and whether all answers so
-- far were those of a disk that keeps what it is given
module _ {D : Type 0} (seen : D → List ℕ) (may_leave : D → List ℕ → Type 0)
    (is_true : D → Type 0) where
  -- the file has these bytes with those that wait; any crash leaves what it has of them
  abbrev pub HasBytes : List ℕ → Draft D → Type 0
  HasBytes bytes draft =
      is_true draft.file → (written : List ℕ) × (bytes ≡ written ++ draft.page.items)
      × (length written ≡ draft.size) × (seen draft.file ≡ written)
      × Only written (may_leave draft.file)

  -- they are those of a journal of version 2, and behind them a group is begun; these texts are all
  pub record IsDraftOf (texts : List (List ℕ)) (draft : Draft D) : Type 0 where
    pub lines : List (List ℕ)
    pub whole : List (List ℕ)
    pub journal : TellsTexts Checked lines whole
    pub free : All HasNoFeed lines
    pub begun : All IsText draft.group
    pub begun_free : All HasNoFeed draft.group
    pub all : texts ≡ whole ++ draft.group
    pub bytes : HasBytes (open_lines lines) draft

  -- it has some
  abbrev pub IsDraft : Draft D → Type 0
  IsDraft draft = (texts : List (List ℕ)) × IsDraftOf texts draft

-- any crash leaves these bytes of the file
abbrev pub IsWritten : {D : Type 0} → (D → List ℕ → Type 0) → (D → Type 0) → List ℕ → Draft D
    → Type 0
IsWritten may_leave is_true bytes draft = is_true draft.file → Only bytes (may_leave draft.file)
