-- A journal that is read at a start.
use Rattle.std.specs.Prelude.{◌≡◌, ◌≢◌, ◌⊎◌, ℕ, List, [], ◌∷◌, ◌++◌, ◌+◌, ◌^◌, ◌≤◌, length}
use Rattle.std.specs.Prelude.{Option, Some, None, Result, Ok, Err}
use Rattle.std.specs.List.{AllZip}
use Rattle.mds_table.specs.Json.{max_bytes}
use Rattle.mds_table.specs.Tables.{Tables}
use Rattle.mds_core.specs.declared.request.Request.{Request}
use Rattle.mds_core.specs.Answer.{MayBeDone}
use Rattle.mds_journal.specs.Lines.{recovered_texts}
use Rattle.mds_journal.specs.Journal.{HasShortEnd}
use Rattle.mds_journal.specs.Device.{Untouched}
use Rattle.mds_journal.specs.Opening.{IsReading, IsTooLong, limit_of, number_of, unread_bytes}
use Rattle.mds_journal.specs.declared.opening.Opening.{Opening}
use Rattle.mds_journal.specs.declared.device.DeviceError.{DeviceError}
use Rattle.mds_journal.specs.declared.device.DeviceError.TheVariants as device
use Rattle.mds_journal.specs.declared.opening.OpenError.{OpenError}
use Rattle.mds_journal.specs.declared.opening.OpenError.TheVariants as opening
use Rattle.mds_journal.specs.declared.fault.JournalFault.TheVariants.{Form, BadLine, TooLong}
use Rattle.mds_journal.specs.declared.fault.JournalFault.TheVariants.{Refused, Damaged as Torn}
use Rattle.mds_entries.specs.Entry.{Tells}
use Rattle.mds_groups.specs.Form.{first_line, header, texts_in, IsJournal}
use Rattle.mds_groups.specs.Entries.{numbers_from, AreEntries, IsEntryAt}
use Rattle.mds_groups.specs.Stream.{texts_of, HasTaken, IsEndFault, IsFront, IsLineFault}
use Rattle.mds_groups.specs.declared.form.JournalForm.{JournalForm}
use Rattle.mds_groups.specs.declared.fault.GroupFault.TheVariants.{Damaged}
use Rattle.mds_groups.specs.declared.fault.GroupFault.TheVariants.{Journal as InJournal}
use Rattle.mds_groups.specs.declared.stream.GroupError.{GroupError}
use Rattle.mds_groups.specs.declared.stream.GroupError.TheVariants as group
use Rattle.mds_groups.specs.declared.stream.WholeGroup.{WholeGroup}
use Rattle.mds_book.specs.declared.record_fault.RecordFault.{RecordFault}
use Rattle.mds_book.specs.declared.record_fault.RecordFault.TheVariants as record_kind
use Rattle.mds_follow.specs.Disk.{new_form}
use Rattle.mds_follow.specs.declared.reader.RequestReader.{RequestReader}
use Rattle.mds_follow.specs.declared.start_fault.StartFault.{StartFault}
use Rattle.mds_follow.specs.declared.start_fault.StartFault.TheVariants.{Memory, Device}
use Rattle.mds_follow.specs.declared.start_fault.StartFault.TheVariants.{Journal, Shared, CutOff}
use Rattle.mds_groups.specs.Behind.{CountedOnce}
use Rattle.mds_follow.specs.End.{end_of, IsRefusedEnd}

-- what is said of a call of the device that failed
abbrev pub device_fault : DeviceError → StartFault
device_fault device.Memory = Memory
device_fault device.Failed = Device

-- what is said of a line that wasn't recorded
abbrev pub record_fault : RecordFault → StartFault
record_fault record_kind.Memory = Memory
record_fault record_kind.NotKept = Device
record_fault record_kind.Lost = Device

-- what is said of the line of this number, which can't be handed out
abbrev pub line_fault : ℕ → OpenError → StartFault
line_fault number opening.Memory = Memory
line_fault number (opening.Device error) = device_fault error
line_fault number opening.TooLong = Journal (InJournal (TooLong number))
line_fault number opening.Full = Device
line_fault number opening.Damaged = Device

-- what is said of a line that goes on with no group
abbrev pub group_fault : GroupError → StartFault
group_fault group.Memory = Memory
group_fault (group.Fault fault) = Journal fault

-- what came back, whether it was made or not
abbrev pub left_of : {X E D : Type 0} → Result X E → (X → D) → (E → D) → D
left_of (Ok made) of_made of_error = of_made made
left_of (Err error) of_made of_error = of_error error

-- no line counts, and no more stands there than a crash leaves
pub record IsBlank (file : List ℕ) : Type 0 where
  pub none : recovered_texts file ≡ []
  pub short : HasShortEnd file

-- a file stood for nothing, and another stands for the lines before the first group
abbrev pub Begins : List ℕ → List ℕ → Type 0
Begins file other = (recovered_texts file ≡ []) × (recovered_texts other ≡ header new_form)

-- the other has the same bytes, or begins it
abbrev pub StaysOrBegins : List ℕ → List ℕ → Type 0
StaysOrBegins file other = (other ≡ file) ⊎ Begins file other

-- the other stands for the same lines, or begins it
abbrev pub KeepsOrBegins : List ℕ → List ℕ → Type 0
KeepsOrBegins file other = (recovered_texts other ≡ recovered_texts file) ⊎ Begins file other

-- the fault says what is wrong with the file
abbrev pub IsJournalFault : StartFault → Type 0
IsJournalFault (Journal fault) = Unit {0}
IsJournalFault Memory = ⊥
IsJournalFault Device = ⊥
IsJournalFault Shared = ⊥
IsJournalFault CutOff = ⊥

-- the fault says nothing of the file, nor of the book
abbrev pub IsNoJournalFault : StartFault → Type 0
IsNoJournalFault Memory = Unit {0}
IsNoJournalFault Device = Unit {0}
IsNoJournalFault (Journal fault) = ⊥
IsNoJournalFault Shared = ⊥
IsNoJournalFault CutOff = ⊥

-- a journal is read at a start, with the limit of what clients send
pub record IsAtRequest {D : Type 0} (seen : D → List ℕ) (may_leave : D → List ℕ → Type 0)
    (may_be_used is_true : D → Type 0) (opening : Opening D) : Type 0 where
  pub reading : IsReading seen may_leave may_be_used is_true opening
  pub limit : limit_of opening ≡ max_bytes

-- a journal was read on, and nothing else was done to its device
pub record IsReadOn {D : Type 0} (seen : D → List ℕ) (may_leave : D → List ℕ → Type 0)
    (is_true : D → Type 0) (moment : D → ℕ) (left_since : D → ℕ → List ℕ → Type 0)
    (old new : Opening D) : Type 0 where
  pub untouched : is_true new.device
      → Untouched seen may_leave moment left_since old.device new.device
  pub was_true : is_true new.device → is_true old.device

-- a reader took one line, which names this form, of these bytes
pub record HasFormOf {D : Type 0} (seen : D → List ℕ) (is_true : D → Type 0) (bytes : List ℕ)
    (reader : RequestReader D) (form : JournalForm) : Type 0 where
  pub groups : List (List (List ℕ))
  pub taken : HasTaken reader.groups (first_line form ∷ []) groups
  pub none : texts_in groups ≡ []
  pub number : number_of reader.opening ≡ 1
  pub given : is_true reader.opening.device
      → recovered_texts bytes
      ≡ first_line form ∷ recovered_texts (unread_bytes seen reader.opening)

-- a reader took one line, which names a form, of these bytes
abbrev pub HasForm : {D : Type 0} → (D → List ℕ) → (D → Type 0) → List ℕ → RequestReader D → Type 0
HasForm seen is_true bytes reader =
    (form : JournalForm) × HasFormOf seen is_true bytes reader form

-- a journal is read at a start: its first line names its form, and what stands behind it comes next
pub record IsAtFirstRequest {D : Type 0} (seen : D → List ℕ) (may_leave : D → List ℕ → Type 0)
    (may_be_used is_true : D → Type 0) (reader : RequestReader D) : Type 0 where
  pub reading : IsReading seen may_leave may_be_used is_true reader.opening
  pub limit : limit_of reader.opening ≡ max_bytes
  pub form : HasForm seen is_true (seen reader.opening.device) reader

-- no more lines count
abbrev pub HasNoMore : List ℕ → Type 0
HasNoMore bytes = recovered_texts bytes ≡ []

-- a journal was read this far: whole groups, which have these texts, and some lines of the next one
pub record HasTexts {D : Type 0} (seen : D → List ℕ) (is_true : D → Type 0)
    (reader : RequestReader D) (texts : List (List ℕ)) : Type 0 where
  pub lines : List (List ℕ)
  pub groups : List (List (List ℕ))
  pub taken : HasTaken reader.groups lines groups
  pub number : number_of reader.opening ≡ length lines
  pub begun : lines ≢ []
  pub texts_are : texts_in groups ≡ texts
  pub given : is_true reader.opening.device
      → recovered_texts (seen reader.opening.device)
      ≡ lines ++ recovered_texts (unread_bytes seen reader.opening)

-- the numbers of its lines fit
abbrev pub IsNumbered : WholeGroup → Type 0
IsNumbered group = group.first + length group.texts.items ≤ 2 ^ 64

-- the first lines of a file are these, the front of a journal whose whole groups have these texts,
-- and these bytes are left
pub record HasFront (file : List ℕ) (texts lines : List (List ℕ)) (left : List ℕ) : Type 0 where
  pub groups : List (List (List ℕ))
  pub front : IsFront lines groups
  pub texts_are : texts_in groups ≡ texts
  pub given : recovered_texts file ≡ lines ++ recovered_texts left

-- all lines before that of this number were read, whose whole groups have these texts, and this
-- holds of what is left
abbrev pub StopsAt : List ℕ → List (List ℕ) → ℕ → (List ℕ → Type 0) → Type 0
StopsAt file texts number Stops =
    (lines : List (List ℕ)) × (left : List ℕ)
    × HasFront file texts lines left × (number ≡ length lines) × Stops left

-- behind these texts the group that begins with the line of this number isn't whole: by the next
-- line, or because there is none; or it counted once, and its gate isn't open
pub record IsDamaged (file : List ℕ) (texts : List (List ℕ)) (number : ℕ) : Type 0 where
  pub lines : List (List ℕ)
  pub left : List ℕ
  pub front : HasFront file texts lines left
  pub damage : ((line : List ℕ) × (rest : List (List ℕ)) × (recovered_texts left ≡ line ∷ rest)
      × IsLineFault lines front.groups line (group.Fault (Damaged number)))
      ⊎ (HasNoMore left × IsEndFault lines front.groups (Damaged number))
      ⊎ (HasNoMore left × (number ≡ length lines)
      × ((form : JournalForm) × IsJournal form lines front.groups
      × CountedOnce form (end_of file)))

-- a text tells no request
abbrev pub TellsNone : List ℕ → Type 0
TellsNone text = (request : Request) → Tells text request → ⊥

-- a text tells a request that may not be done after these
abbrev pub TellsRefused : Tables → List Request → List ℕ → Type 0
TellsRefused tables told text =
    (request : Request) × Tells text request × (MayBeDone tables told request → ⊥)

-- why no more of a file is read behind these texts, or it isn't gone on with
abbrev pub StopsBehind : List ℕ → List (List ℕ) → StartFault → Type 0
StopsBehind file texts (Journal (Damaged line)) = IsDamaged file texts line
StopsBehind file texts (Journal (InJournal (TooLong line))) =
    StopsAt file texts line (IsTooLong max_bytes)
StopsBehind file texts (Journal (InJournal (BadLine line))) =
    (text : List ℕ) × IsEntryAt (recovered_texts file) texts line text × TellsNone text
StopsBehind file texts (Journal (InJournal Torn)) = HasShortEnd file → ⊥
StopsBehind file texts (Journal (InJournal other)) = ⊥
StopsBehind file texts Memory = Unit {0}
StopsBehind file texts Device = Unit {0}
StopsBehind file texts Shared = ⊥
StopsBehind file texts CutOff = ⊥

-- what comes behind these texts: a group whose texts these are, no more lines, or a stop
abbrev pub IsNextGroup : {D : Type 0} → (D → List ℕ) → (D → Type 0) → RequestReader D
    → List (List ℕ) → Result (Option WholeGroup) StartFault → Type 0
IsNextGroup seen is_true reader before (Ok (Some group)) =
    HasTexts seen is_true reader (before ++ texts_of group)
    × (is_true reader.opening.device
    → AreEntries (recovered_texts (seen reader.opening.device)) before (texts_of group)
    (numbers_from group.first (length group.texts.items)))
IsNextGroup seen is_true reader before (Ok None) =
    HasTexts seen is_true reader before
    × (is_true reader.opening.device → HasNoMore (unread_bytes seen reader.opening))
IsNextGroup seen is_true reader before (Err fault) =
    is_true reader.opening.device
    → StopsBehind (seen reader.opening.device) before fault

-- why the first line, which has to name a form, isn't taken
abbrev pub IsFormFault : List ℕ → StartFault → Type 0
IsFormFault bytes (Journal (InJournal Form)) =
    (form : JournalForm) (lines : List (List ℕ))
    → recovered_texts bytes ≡ first_line form ∷ lines → ⊥
IsFormFault bytes (Journal (InJournal (TooLong line))) = (line ≡ 0) × IsTooLong max_bytes bytes
IsFormFault bytes (Journal fault) = ⊥
IsFormFault bytes Memory = Unit {0}
IsFormFault bytes Device = Unit {0}
IsFormFault bytes Shared = ⊥
IsFormFault bytes CutOff = ⊥

-- why a file isn't open as a journal: its first line names no form, and it isn't empty
abbrev pub IsOpenFault : List ℕ → StartFault → Type 0
IsOpenFault file (Journal (InJournal Form)) =
    (file ≢ []) × IsFormFault file (Journal (InJournal Form))
IsOpenFault file fault = IsFormFault file fault

-- texts that are read first tell requests, and this holds of both
abbrev pub StopsAfter : (List (List ℕ) → List Request → Type 0) → Type 0
StopsAfter Stops =
    (texts : List (List ℕ)) × (told : List Request) × AllZip Tells texts told × Stops texts told

-- why a book over these tables isn't open over the journal of this file
abbrev pub IsStartFault : Tables → List ℕ → StartFault → Type 0
IsStartFault tables file (Journal (InJournal (Refused line))) =
    StopsAfter (λ texts told. (text : List ℕ)
    × IsEntryAt (recovered_texts file) texts line text × TellsRefused tables told text)
IsStartFault tables file (Journal fault) =
    StopsAfter (λ texts told. StopsBehind file texts (Journal fault))
IsStartFault tables file Memory = Unit {0}
IsStartFault tables file Device = Unit {0}
IsStartFault tables file Shared = Unit {0}
IsStartFault tables file CutOff = StopsAfter (IsRefusedEnd tables file)

-- so it is, and the file has these bytes then: the same, where the fault is the journal's
pub record IsNotStarted (tables : Tables) (file left : List ℕ) (fault : StartFault) : Type 0 where
  pub why : IsStartFault tables file fault
  pub same : IsJournalFault fault → left ≡ file
