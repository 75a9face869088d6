-- What stands in a journal of lines, as requests.
use Rattle.std.specs.Prelude.{◌≡◌, ◌⊎◌, ℕ, List, [], All}
use Rattle.std.specs.List.{AllZip}
use Rattle.std.proofs.Common.{sym, subst}
use Rattle.mds_core.specs.declared.request.Request.{Request}
use Rattle.mds_journal.specs.Lines.{recovered_texts}
use Rattle.mds_journal.specs.Journal.{StandsFor}
use Rattle.mds_journal.specs.declared.journal.AppendError.{AppendError}
use Rattle.mds_journal.specs.declared.journal.AppendError.TheVariants.{NotWritten, Full}
use Rattle.mds_journal.specs.declared.journal.AppendError.TheVariants.{Unknown, Lost}
use Rattle.mds_check.specs.Form.{IsText}
use Rattle.mds_entries.specs.Entry.{Tells}
use Rattle.mds_groups.specs.Form.{ended, header}
use Rattle.mds_groups.specs.Laws.{TellsTexts}
use Rattle.mds_groups.specs.declared.form.JournalForm.{JournalForm}
use Rattle.mds_groups.specs.declared.form.JournalForm.TheVariants.{Checked}
use Rattle.mds_book.specs.declared.record_fault.RecordFault.{RecordFault}
use Rattle.mds_book.specs.declared.record_fault.RecordFault.TheVariants as record_fault
use Rattle.mds_follow.specs.declared.disk.Disk.{Disk}

-- what an append that failed says of the requests
abbrev pub fault_of : AppendError → RecordFault
fault_of (NotWritten error) = record_fault.NotKept
fault_of Full = record_fault.NotKept
fault_of (Unknown error) = record_fault.Lost
fault_of Lost = record_fault.Lost

-- the form of new files
abbrev pub new_form : JournalForm
new_form = Checked

-- the lines of a journal of this form tell these requests, in groups that are whole
pub record IsToldIn (form : JournalForm) (lines : List (List ℕ)) (told : List Request)
    : Type 0 where
  pub texts : List (List ℕ)
  pub groups : TellsTexts form lines texts
  pub tells : AllZip Tells texts told

-- the lines of a journal of either form do
abbrev pub IsTold : List (List ℕ) → List Request → Type 0
IsTold lines told = (form : JournalForm) × IsToldIn form lines told

-- a file stands for nothing yet, or for the lines before the first group
abbrev pub MayBeBegun : List ℕ → Type 0
MayBeBegun file = (recovered_texts file ≡ []) ⊎ (recovered_texts file ≡ header new_form)

-- these lines record these requests in a journal of this form
pub record Records (form : JournalForm) (requests : List Request) (lines : List (List ℕ))
    : Type 0 where
  pub texts : List (List ℕ)
  pub tells : AllZip Tells texts requests
  pub are : All IsText texts
  pub lines_are : lines ≡ ended form texts

-- a restart reads these requests, also after a crash at this moment
pub record Stands {D : Type 0} (seen : D → List ℕ) (may_leave : D → List ℕ → Type 0)
    (disk : Disk D) (told : List Request) : Type 0 where
  pub lines : List (List ℕ)
  pub is_told : IsToldIn disk.form lines told
  pub stands : StandsFor seen may_leave lines disk.journal.device

-- the lines of a file are a journal of the disk's form, which tells these texts, and the disk stands
-- for them
pub record StandsFrom {D : Type 0} (seen : D → List ℕ) (may_leave : D → List ℕ → Type 0)
    (file : List ℕ) (texts : List (List ℕ)) (disk : Disk D) : Type 0 where
  pub tells : TellsTexts disk.form (recovered_texts file) texts
  pub stands : StandsFor seen may_leave (recovered_texts file) disk.journal.device

-- a restart may read these requests after a crash at some moment from that one on: those that a
-- file tells which was left, and any where it tells none
pub record MayRead (left_since : ℕ → List ℕ → Type 0) (t : ℕ) (told : List Request) : Type 0 where
  pub file : List ℕ
  pub left : left_since t file
  pub is_told : (other : List Request) → IsTold (recovered_texts file) other → other ≡ told

-- texts tell no more than one list of requests
abbrev pub TextsTellOneList : Type 0
TextsTellOneList =
    (texts : List (List ℕ)) (told other : List Request)
    → IsTold texts told → IsTold texts other → told ≡ other

-- what a crash at this moment leaves tells what stands there
pub reads_now : {D : Type 0} (seen : D → List ℕ) (may_leave : D → List ℕ → Type 0)
    (left_since : D → ℕ → List ℕ → Type 0) (moment : D → ℕ) (disk : Disk D) (told c : List Request)
    → ((file : List ℕ)
    → left_since disk.journal.device (moment disk.journal.device) file
    → may_leave disk.journal.device file)
    → Stands seen may_leave disk told
    → MayRead (left_since disk.journal.device) (moment disk.journal.device) c → c ≡ told
reads_now seen may_leave left_since moment disk told c only stands read =
    let same : recovered_texts read.file ≡ stands.lines =
    stands.stands.outcomes read.file (only read.file read.left) in
    let is : IsTold stands.lines told = (disk.form, stands.is_told) in
    sym (read.is_told told (subst (λ (w : List (List ℕ)). IsTold w told) (sym same) is))
