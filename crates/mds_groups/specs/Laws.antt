-- What holds of the lines of journals, whoever reads them.
use Rattle.std.specs.Prelude.{◌≡◌, ◌≢◌, ℕ, List, [], ◌++◌, Some, All}
use Rattle.mds_core.specs.declared.request.Request.{Request}
use Rattle.mds_journal.specs.Lines.{HasNoFeed, open_lines, recovered_texts}
use Rattle.mds_check.specs.Form.{IsText}
use Rattle.mds_check.specs.Laws.{IsByte, DifferInARun, file_with}
use Rattle.mds_entries.specs.Entry.{line_of}
use Rattle.mds_groups.specs.Form.{ended, group_lines, header, texts_in, IsJournal}
use Rattle.mds_groups.specs.declared.form.JournalForm.{JournalForm}
use Rattle.mds_groups.specs.declared.form.JournalForm.TheVariants.{Checked}

-- no request is laid out as a text that is as long as a check
abbrev pub TextsAreNoChecks : Type 0
TextsAreNoChecks = (request : Request) (text : List ℕ) → line_of request ≡ Some text → IsText text

-- the lines before the first group are a journal with no groups
abbrev pub JournalsBegin : Type 0
JournalsBegin = (form : JournalForm) → IsJournal form (header form) []

-- lines of a journal tell these texts, in groups that are whole
pub record TellsTexts (form : JournalForm) (lines texts : List (List ℕ)) : Type 0 where
  pub groups : List (List (List ℕ))
  pub journal : IsJournal form lines groups
  pub told : texts_in groups ≡ texts

-- where a group is put behind the lines of a journal, these tell its texts too
abbrev pub JournalsGoOn : Type 0
JournalsGoOn =
    (form : JournalForm) (lines texts more : List (List ℕ))
    → TellsTexts form lines texts → All IsText more
    → TellsTexts form (lines ++ ended form more) (texts ++ more)

-- lines of a checked journal tell texts in one way
abbrev pub JournalsTellOnce : Type 0
JournalsTellOnce =
    (lines : List (List ℕ)) (groups others : List (List (List ℕ)))
    → IsJournal Checked lines groups → IsJournal Checked lines others → groups ≡ others

-- where a byte of a line is changed in the file of a checked journal, be it of the first line or of
-- a check, the file is that of no journal, of either form
abbrev pub ChangedJournalsAreFound : Type 0
ChangedJournalsAreFound =
    (form : JournalForm) (groups others : List (List (List ℕ)))
    (before : List (List ℕ)) (front back rest : List ℕ) (x y : ℕ)
    → All HasNoFeed before → HasNoFeed front → HasNoFeed back → x ≢ 10 → y ≢ 10
    → IsByte x → IsByte y → x ≢ y
    → IsJournal Checked (recovered_texts (file_with before front x back rest)) groups
    → IsJournal form (recovered_texts (file_with before front y back rest)) others → ⊥

-- the bytes of a group as it stands in a file, its check and all gates and line feeds among them
abbrev pub bytes_of : List (List ℕ) → List ℕ
bytes_of texts = open_lines (group_lines Checked texts)

-- those of two groups don't differ in a run of at most 32 bits, wherever it begins
abbrev pub ChangedGroupsAreFound : Type 0
ChangedGroupsAreFound =
    (texts others : List (List ℕ)) → DifferInARun (bytes_of texts) (bytes_of others) → ⊥
