-- What the lines of a journal tell.
use Rattle.std.specs.Prelude.{◌≡◌, ◌≢◌, ◌≤◌, ◌⊎◌, ℕ, ◌+◌, List, [], ◌∷◌}
use Rattle.std.specs.Prelude.{◌++◌, length, All, Option, Some, None, IfSome}
use Rattle.std.specs.List.{AllZip}
use Rattle.mds_table.specs.Json.{max_bytes}
use Rattle.mds_table.specs.Tables.{Tables}
use Rattle.mds_core.specs.declared.request.Request.{Request}
use Rattle.mds_core.specs.Answer.{MayBeDone}
use Rattle.mds_core.specs.Lawful.{IsLawful}
use Rattle.mds_entries.specs.Entry.{Tells}
use Rattle.mds_groups.specs.Form.{first_line, texts_in, IsJournal}
use Rattle.mds_groups.specs.Stream.{AreWhole, HasTaken, IsEndFault, IsFront, IsLineFault}
use Rattle.mds_groups.specs.declared.fault.GroupFault.TheVariants.{Damaged, Journal}
use Rattle.mds_groups.specs.declared.form.JournalForm.{JournalForm}
use Rattle.mds_groups.specs.declared.stream.GroupError.{GroupError}
use Rattle.mds_groups.specs.declared.stream.GroupError.TheVariants as kind
use Rattle.mds_journal.specs.Lines.{HasNoFeed, open_lines, recovered_texts}
use Rattle.mds_journal.specs.Opening.{IsTooLong}
use Rattle.mds_journal.specs.Stream.{HandsOut, StandsForNothing, IsStream}
use Rattle.mds_journal.specs.Stream.{lines_given, most_of, unread_of}
use Rattle.mds_journal.specs.declared.stream.StreamError.{StreamError}
use Rattle.mds_journal.specs.declared.stream.StreamError.TheVariants as stream
use Rattle.mds_journal.specs.declared.fault.JournalFault.TheVariants.{Form, BadLine, TooLong}
use Rattle.mds_journal.specs.declared.fault.JournalFault.TheVariants.{Refused}
use Rattle.mds_commands.specs.declared.roster.Roster.{Roster}
use Rattle.mds_commands.specs.Roster.{IsRosterOf}
use Rattle.mds_commands.specs.declared.vehicles.taking.Taken.{Taken}
use Rattle.mds_commands.specs.declared.vehicles.taking.TakenJournal.{TakenJournal}
use Rattle.mds_commands.specs.declared.vehicles.taking.Taking.{Taking}
use Rattle.mds_commands.specs.declared.vehicles.taking.TakeError.{TakeError}
use Rattle.mds_commands.specs.declared.vehicles.taking.TakeError.TheVariants.{Memory, Read, Fault}

-- why requests can't be taken, where lines can't be read on for this
abbrev pub stream_error : StreamError → TakeError
stream_error stream.Memory = Memory
stream_error stream.Read = Read
stream_error (stream.TooLong line) = Fault (Journal (TooLong line))
stream_error stream.Full = Read

-- the same, where a line goes on with no group for this
abbrev pub group_error : GroupError → TakeError
group_error kind.Memory = Memory
group_error (kind.Fault fault) = Fault fault

-- known bytes are open lines of these texts, and then the rest
abbrev pub Gives : Option (List ℕ) → List (List ℕ) → Option (List ℕ) → Type 0
Gives None texts left = Unit {0}
Gives (Some bytes) texts None = ⊥
Gives (Some bytes) texts (Some rest) = (bytes ≡ open_lines texts ++ rest) × All HasNoFeed texts

-- of known bytes these texts count first, whatever counts behind them
abbrev pub HasFront : Option (List ℕ) → List (List ℕ) → Type 0
HasFront known texts =
    IfSome known (λ bytes. (more : List (List ℕ)) × (recovered_texts bytes ≡ texts ++ more))

-- these are the texts that count in known bytes
abbrev pub AreTexts : Option (List ℕ) → List (List ℕ) → Type 0
AreTexts known texts = IfSome known (λ bytes. recovered_texts bytes ≡ texts)

-- the lines that count are a journal with these groups, whose texts tell these requests, in order
pub record HasTold (known : Option (List ℕ)) (lines : List (List ℕ))
    (groups : List (List (List ℕ))) (history : List Request) : Type 0 where
  pub counted : AreTexts known lines
  pub whole : AreWhole lines groups
  pub told : AllZip Tells (texts_in groups) history

-- a text isn't too long
abbrev pub IsShort : List ℕ → Type 0
IsShort text = length text ≤ max_bytes

-- nor does it tell a request
abbrev pub TellsNone : List ℕ → Type 0
TellsNone text = IsShort text × ((request : Request) → Tells text request → ⊥)

-- the next line has too many bytes
abbrev pub HasLongLine : Option (List ℕ) → Type 0
HasLongLine known = IfSome known (IsTooLong max_bytes)

-- there is no first line, or one that isn't too long, and names no form
abbrev pub HasOtherForm : Option (List ℕ) → Type 0
HasOtherForm known =
    StandsForNothing known
    ⊎ ((text : List ℕ) × (left : Option (List ℕ))
    × HandsOut known text left × IsShort text
    × ((form : JournalForm) → text ≢ first_line form))

-- these lines count first, the front of a journal with these groups, whose texts tell these
-- requests; they are lawful
pub record IsTakenTo (tables : Tables) (known : Option (List ℕ)) (lines : List (List ℕ))
    (left : Option (List ℕ)) (history : List Request) : Type 0 where
  pub groups : List (List (List ℕ))
  pub front : IsFront lines groups
  pub given : Gives known lines left
  pub told : AllZip Tells (texts_in groups) history
  pub lawful : IsLawful tables history

-- this holds of what is left behind the lines before that of this number
abbrev pub StopsAt : Tables → Option (List ℕ) → ℕ → (Option (List ℕ) → Type 0) → Type 0
StopsAt tables known number Stops =
    (lines : List (List ℕ)) × (left : Option (List ℕ)) × (history : List Request)
    × IsTakenTo tables known lines left history × (number ≡ length lines) × Stops left

-- the group that begins with the line of this number isn't whole: by the next line, or because
-- there is none
pub record IsDamaged (tables : Tables) (known : Option (List ℕ)) (number : ℕ) : Type 0 where
  pub lines : List (List ℕ)
  pub left : Option (List ℕ)
  pub history : List Request
  pub to : IsTakenTo tables known lines left history
  pub damage : ((text : List ℕ) × (rest : Option (List ℕ)) × HandsOut left text rest
      × IsLineFault lines to.groups text (kind.Fault (Damaged number)))
      ⊎ (AreTexts known lines × IsEndFault lines to.groups (Damaged number))

-- the line of this number has this text, in a group that is whole, and the texts before it tell
-- these requests, which are lawful
pub record IsEntryOf (tables : Tables) (known : Option (List ℕ)) (number : ℕ)
    (history : List Request) (text : List ℕ) : Type 0 where
  pub form : JournalForm
  pub before : List (List ℕ)
  pub groups : List (List (List ℕ))
  pub journal : IsJournal form before groups
  pub front : List (List ℕ)
  pub counted : HasFront known (before ++ front ++ text ∷ [])
  pub place : number ≡ length before + length front
  pub told : AllZip Tells (texts_in groups ++ front) history
  pub lawful : IsLawful tables history

-- this holds of the text of the line of this number, and of the requests before it
abbrev pub StopsIn : Tables → Option (List ℕ) → ℕ → (List Request → List ℕ → Type 0) → Type 0
StopsIn tables known number Stops =
    (history : List Request) × (text : List ℕ)
    × IsEntryOf tables known number history text × Stops history text

-- a text tells a request that isn't accepted after this history
abbrev pub TellsUnlawful : Tables → List Request → List ℕ → Type 0
TellsUnlawful tables history text =
    (request : Request) × Tells text request × (MayBeDone tables history request → ⊥)

-- why known bytes are no journal over these tables
abbrev pub IsJournalFault : Tables → Option (List ℕ) → TakeError → Type 0
IsJournalFault tables known Memory = Unit {0}
IsJournalFault tables known Read = Unit {0}
IsJournalFault tables known (Fault (Damaged line)) = IsDamaged tables known line
IsJournalFault tables known (Fault (Journal Form)) = HasOtherForm known
IsJournalFault tables known (Fault (Journal (TooLong line))) =
    StopsAt tables known line HasLongLine
IsJournalFault tables known (Fault (Journal (BadLine line))) =
    StopsIn tables known line (λ history text. TellsNone text)
IsJournalFault tables known (Fault (Journal (Refused line))) =
    StopsIn tables known line (TellsUnlawful tables)
IsJournalFault tables known (Fault (Journal other)) = ⊥

-- the roster took the requests of some texts, in order, whichever history it was of
abbrev pub TakesTexts : List (List ℕ) → Roster → Roster → Type 0
TakesTexts texts old new =
    (tables : Tables) (history : List Request) → IsRosterOf tables history old
    → (requests : List Request)
    × AllZip Tells texts requests × IsRosterOf tables (history ++ requests) new

-- why a roster doesn't take the request of this text, where its line has this number
abbrev pub IsEntryFault : ℕ → List ℕ → Roster → TakeError → Type 0
IsEntryFault number text roster Memory = Unit {0}
IsEntryFault number text roster (Fault (Journal (BadLine line))) =
    (line ≡ number) × ((request : Request) → Tells text request → ⊥)
IsEntryFault number text roster (Fault (Journal (Refused line))) =
    (line ≡ number) × ((request : Request) × Tells text request
    × ((tables : Tables) (history : List Request)
    → IsRosterOf tables history roster → MayBeDone tables history request → ⊥))
IsEntryFault number text roster other = ⊥

-- why a roster doesn't take the requests of some texts, where the first line has this number: that
-- of the first one that it doesn't take
pub record StopsAmong (number : ℕ) (texts : List (List ℕ)) (roster : Roster) (error : TakeError)
    : Type 0 where
  pub front : List (List ℕ)
  pub text : List ℕ
  pub back : List (List ℕ)
  pub middle : Roster
  pub split : texts ≡ front ++ text ∷ back
  pub taken : TakesTexts front roster middle
  pub fault : IsEntryFault (number + length front) text middle error

-- lines may be taken on
pub record IsTaking {R : Type 0} (taking : Taking R) : Type 0 where
  pub stream : IsStream taking.lines
  pub limit : most_of taking.lines ≡ max_bytes
  pub few : taking.count ≤ lines_given taking.lines

-- all that was taken of known bytes: these lines, their groups, and the roster of their requests
pub record HasTakenOf {R : Type 0} (remaining : R → Option (List ℕ)) (tables : Tables)
    (known : Option (List ℕ)) (taking : Taking R) : Type 0 where
  pub lines : List (List ℕ)
  pub groups : List (List (List ℕ))
  pub history : List Request
  pub given : Gives known lines (unread_of remaining taking.lines)
  pub short : All IsShort lines
  pub stream : HasTaken taking.groups lines groups
  pub number : lines_given taking.lines ≡ length lines
  pub count : taking.count ≡ length groups
  pub told : AllZip Tells (texts_in groups) history
  pub roster_is : IsRosterOf tables history taking.roster

-- these lines are all that count
pub record HasTakenAll {R : Type 0} (remaining : R → Option (List ℕ)) (tables : Tables)
    (known : Option (List ℕ)) (taking : Taking R) : Type 0 where
  pub taken : HasTakenOf remaining tables known taking
  pub counted : AreTexts known taken.lines

-- whatever had been taken, it was taken on
abbrev pub TakesOn : {R : Type 0} → (R → Option (List ℕ)) → Taking R → Taking R → Type 0
TakesOn {R} remaining old new =
    (tables : Tables) (known : Option (List ℕ))
    → HasTakenOf remaining tables known old → HasTakenOf remaining tables known new

-- whatever had been taken, it is all
abbrev pub TakesAll : {R : Type 0} → (R → Option (List ℕ)) → Taking R → Taking R → Type 0
TakesAll {R} remaining old new =
    (tables : Tables) (known : Option (List ℕ))
    → HasTakenOf remaining tables known old → HasTakenAll remaining tables known new

-- whatever had been taken, this is why it isn't taken on
abbrev pub StopsBy : {R : Type 0} → (R → Option (List ℕ)) → Taking R → TakeError → Type 0
StopsBy {R} remaining taking error =
    (tables : Tables) (known : Option (List ℕ))
    → HasTakenOf remaining tables known taking → IsJournalFault tables known error

-- the roster is that of the requests that all lines tell, of which there are so many, in so many
-- groups
pub record IsTakenBy (tables : Tables) (known : Option (List ℕ)) (taken : Taken) : Type 0 where
  pub lines : List (List ℕ)
  pub groups : List (List (List ℕ))
  pub history : List Request
  pub told : HasTold known lines groups history
  pub roster_is : IsRosterOf tables history taken.roster
  pub line_count : taken.lines ≡ length lines
  pub group_count : taken.groups ≡ length groups

-- the same, and what stands behind these lines
pub record IsJournalBy {R : Type 0} (remaining : R → Option (List ℕ)) (tables : Tables)
    (known : Option (List ℕ)) (journal : TakenJournal R) : Type 0 where
  pub by : IsTakenBy tables known journal.taken
  pub form : IsJournal journal.form by.lines by.groups
  pub stream : IsStream journal.behind
  pub limit : most_of journal.behind ≡ max_bytes
  pub left : Gives known by.lines (unread_of remaining journal.behind)
