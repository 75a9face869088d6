-- What the lines of a journal tell.
use Rattle.std.specs.Prelude.{◌≡◌, ◌≢◌, ◌⊎◌, ◌≤◌, ◌<◌, ℕ, List, ◌++◌, length}
use Rattle.std.specs.Prelude.{Option, Some, None, IfSome}
use Rattle.std.specs.List.{AllZip}
use Rattle.mds_table.specs.Json.{max_bytes}
use Rattle.mds_core.specs.declared.request.Request.{Request}
use Rattle.mds_entries.specs.Entry.{Tells}
use Rattle.mds_entries.specs.declared.entry.EntryFault.{EntryFault}
use Rattle.mds_entries.specs.declared.entry.EntryFault.TheVariants as entry
use Rattle.mds_groups.specs.Entries.{IsEntryAt}
use Rattle.mds_groups.specs.Form.{first_line, texts_in, IsJournal}
use Rattle.mds_groups.specs.Laws.{TellsTexts}
use Rattle.mds_groups.specs.Stream.{IsEndFault, IsFront, IsLineFault}
use Rattle.mds_groups.specs.declared.fault.GroupFault.TheVariants.{Damaged, Journal}
use Rattle.mds_groups.specs.declared.form.JournalForm.{JournalForm}
use Rattle.mds_groups.specs.declared.form.JournalForm.TheVariants.{Checked}
use Rattle.mds_groups.specs.declared.stream.GroupError.{GroupError}
use Rattle.mds_groups.specs.declared.stream.GroupError.TheVariants as group
use Rattle.mds_journal.specs.Lines.{recovered_texts, open_lines}
use Rattle.mds_journal.specs.Opening.{IsTooLong}
use Rattle.mds_journal.specs.Stream.{CountsFirst, StandsForNothing}
use Rattle.mds_journal.specs.declared.stream.StreamError.{StreamError}
use Rattle.mds_journal.specs.declared.stream.StreamError.TheVariants as stream
use Rattle.mds_journal.specs.declared.fault.JournalFault.TheVariants.{Form, BadLine, TooLong}
use Rattle.mds_retention.specs.declared.error.LinesError.{LinesError}
use Rattle.mds_retention.specs.declared.error.LinesError.TheVariants.{Memory, Read, Fault, Changed}

-- why the line of this number can't be read, where lines can't be read on for this
abbrev pub stream_error : ℕ → StreamError → LinesError
stream_error number stream.Memory = Memory
stream_error number stream.Read = Read
stream_error number (stream.TooLong line) = Fault (Journal (TooLong number))
stream_error number stream.Full = Read

-- why requests can't be read, where a line goes on with no group for this
abbrev pub group_error : GroupError → LinesError
group_error group.Memory = Memory
group_error (group.Fault fault) = Fault fault

-- why the line of this number isn't read, where its text tells no request for this
abbrev pub entry_error : ℕ → EntryFault → LinesError
entry_error number entry.BadLine = Fault (Journal (BadLine number))
entry_error number entry.NoLine = Fault (Journal (BadLine number))
entry_error number entry.Memory = Memory

-- of known bytes these lines count first, and what counts in the rest counts behind them
abbrev pub Gives : Option (List ℕ) → List (List ℕ) → Option (List ℕ) → Type 0
Gives None lines left = Unit {0}
Gives (Some bytes) lines None = ⊥
Gives (Some bytes) lines (Some rest) = recovered_texts bytes ≡ lines ++ recovered_texts rest

-- of known bytes these lines count first, whatever counts behind them
abbrev pub HasFront : Option (List ℕ) → List (List ℕ) → Type 0
HasFront known lines = (left : Option (List ℕ)) × Gives known lines left

-- these are the lines that count in known bytes
abbrev pub AreLines : Option (List ℕ) → List (List ℕ) → Type 0
AreLines known lines = IfSome known (λ bytes. recovered_texts bytes ≡ lines)

-- the lines that count are a journal, of either version, whose texts tell these requests, in order
pub record IsTaken (known : Option (List ℕ)) (history : List Request) : Type 0 where
  pub form : JournalForm
  pub lines : List (List ℕ)
  pub groups : List (List (List ℕ))
  pub counted : AreLines known lines
  pub journal : IsJournal form lines groups
  pub told : AllZip Tells (texts_in groups) history

-- the lines that count begin with a journal, and its texts tell these requests, in order
pub record BeginsWith (bytes : List ℕ) (history : List Request) : Type 0 where
  pub form : JournalForm
  pub lines : List (List ℕ)
  pub groups : List (List (List ℕ))
  pub more : List (List ℕ)
  pub counted : recovered_texts bytes ≡ lines ++ more
  pub journal : IsJournal form lines groups
  pub told : AllZip Tells (texts_in groups) history

-- the bytes are those of a journal of version 2 with these texts, and no more
pub record IsFileOf (texts : List (List ℕ)) (bytes : List ℕ) : Type 0 where
  pub lines : List (List ℕ)
  pub journal : TellsTexts Checked lines texts
  pub bytes_are : bytes ≡ open_lines lines
  pub counted : recovered_texts bytes ≡ lines

-- the lines that count begin with the front of a journal, and these texts come first in its groups
pub record HasTexts (known : Option (List ℕ)) (texts : List (List ℕ)) : Type 0 where
  pub lines : List (List ℕ)
  pub groups : List (List (List ℕ))
  pub rest : List (List ℕ)
  pub counted : HasFront known lines
  pub front : IsFront lines groups
  pub told : texts_in groups ≡ texts ++ rest

-- a text isn't too long
abbrev pub IsShort : List ℕ → Type 0
IsShort text = length text ≤ max_bytes

-- nor does it tell a request
abbrev pub TellsNone : List ℕ → Type 0
TellsNone text = IsShort text × ((request : Request) → Tells text request → ⊥)

-- the next line has too many bytes
abbrev pub HasLongLine : Option (List ℕ) → Type 0
HasLongLine known = IfSome known (IsTooLong max_bytes)

-- there is no first line, or one that isn't too long, and names no form
abbrev pub HasOtherForm : Option (List ℕ) → Type 0
HasOtherForm known =
    StandsForNothing known
    ⊎ ((text : List ℕ) × (left : Option (List ℕ))
    × CountsFirst known text left × IsShort text
    × ((form : JournalForm) → text ≢ first_line form))

-- these lines count first, the front of a journal whose whole groups have these texts
pub record IsReadTo (known : Option (List ℕ)) (texts lines : List (List ℕ))
    (left : Option (List ℕ)) : Type 0 where
  pub groups : List (List (List ℕ))
  pub front : IsFront lines groups
  pub told : texts_in groups ≡ texts
  pub given : Gives known lines left

-- behind these texts the line of this number is too long
abbrev pub HasLongBehind : Option (List ℕ) → List (List ℕ) → ℕ → Type 0
HasLongBehind known texts number =
    (lines : List (List ℕ)) × (left : Option (List ℕ)) × IsReadTo known texts lines left
    × (number ≡ length lines) × HasLongLine left

-- behind these texts the group that begins with the line of this number isn't whole: by the next
-- line, or because there is none
pub record IsDamaged (known : Option (List ℕ)) (texts : List (List ℕ)) (number : ℕ) : Type 0 where
  pub lines : List (List ℕ)
  pub left : Option (List ℕ)
  pub to : IsReadTo known texts lines left
  pub damage : ((line : List ℕ) × (rest : Option (List ℕ)) × CountsFirst left line rest
      × IsLineFault lines to.groups line (group.Fault (Damaged number)))
      ⊎ (AreLines known lines × IsEndFault lines to.groups (Damaged number))

-- why no more texts can be read behind these
abbrev pub StopsBehind : Option (List ℕ) → List (List ℕ) → LinesError → Type 0
StopsBehind known texts Memory = Unit {0}
StopsBehind known texts Read = Unit {0}
StopsBehind known texts (Fault (Damaged line)) = IsDamaged known texts line
StopsBehind known texts (Fault (Journal Form)) = HasOtherForm known
StopsBehind known texts (Fault (Journal (TooLong line))) = HasLongBehind known texts line
StopsBehind known texts (Fault (Journal other)) = ⊥
StopsBehind known texts Changed = ⊥

-- behind texts that tell requests comes one that tells none; its line has this number
pub record HasBadLine (known : Option (List ℕ)) (number : ℕ) : Type 0 where
  pub lines : List (List ℕ)
  pub counted : HasFront known lines
  pub before : List (List ℕ)
  pub history : List Request
  pub told : AllZip Tells before history
  pub text : List ℕ
  pub at : IsEntryAt lines before number text
  pub none : TellsNone text

-- this holds of texts that tell requests
abbrev pub StopsAfter : (List (List ℕ) → Type 0) → Type 0
StopsAfter Stops =
    (texts : List (List ℕ)) × (history : List Request) × AllZip Tells texts history × Stops texts

-- why known bytes are no journal
abbrev pub IsJournalFault : Option (List ℕ) → LinesError → Type 0
IsJournalFault known Memory = Unit {0}
IsJournalFault known Read = Unit {0}
IsJournalFault known (Fault (Damaged line)) = StopsAfter (λ texts. IsDamaged known texts line)
IsJournalFault known (Fault (Journal Form)) = HasOtherForm known
IsJournalFault known (Fault (Journal (TooLong line))) =
    StopsAfter (λ texts. HasLongBehind known texts line)
IsJournalFault known (Fault (Journal (BadLine line))) = HasBadLine known line
IsJournalFault known (Fault (Journal other)) = ⊥
IsJournalFault known Changed = ⊥

-- the journal has fewer texts than so many
abbrev pub HasFewer : Option (List ℕ) → ℕ → Type 0
HasFewer known count =
    (form : JournalForm) × (lines : List (List ℕ)) × (groups : List (List (List ℕ)))
    × AreLines known lines × IsJournal form lines groups × (length (texts_in groups) < count)

-- why so many requests of known bytes can't be read: they are no journal, or tell fewer
abbrev pub IsAgainFault : Option (List ℕ) → ℕ → LinesError → Type 0
IsAgainFault known count error =
    IsJournalFault known error ⊎ ((error ≡ Changed) × HasFewer known count)
