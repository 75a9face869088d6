-- What the command does.
use Rattle.std.specs.Prelude.{◌≡◌, ◌≢◌, ◌⊎◌, ℕ, List, length, Option, Some, None, is_some}
use Rattle.mds_groups.specs.declared.fault.GroupFault.TheVariants.{Damaged}
use Rattle.std.specs.Io.KnownBytes.{Appends, Keeps}
use Rattle.mds_table.specs.Tables.{Tables}
use Rattle.mds_core.specs.declared.request.Request.{Request}
use Rattle.mds_core.specs.Lawful.{IsLawful}
use Rattle.mds_io.specs.Page.{AppendsFront}
use Rattle.mds_commands.specs.declared.source.Source.{Source}
use Rattle.mds_commands.specs.declared.status.Status.{Status}
use Rattle.mds_commands.specs.declared.status.Status.TheVariants.{Done}
use Rattle.mds_commands.specs.declared.problem.Problem.TheVariants.{CannotRead, NotATable}
use Rattle.mds_commands.specs.declared.problem.Problem.TheVariants.{NotABatch, NotLines, Socket}
use Rattle.mds_commands.specs.declared.problem.Problem.TheVariants.{Random, Output, Memory}
use Rattle.mds_commands.specs.Source.{HasTablesIn, ExplainsTable, IsOpen}
use Rattle.mds_commands.specs.Files.{Files}
use Rattle.mds_commands.specs.Change.{Change}
use Rattle.mds_commands.specs.declared.vehicles.problem.JournalProblem.{JournalProblem}
use Rattle.mds_commands.specs.declared.vehicles.problem.JournalProblem.TheVariants.{NotAJournal}
use Rattle.mds_commands.specs.declared.vehicles.problem.JournalProblem.TheVariants.{Other}
use Rattle.mds_commands.specs.declared.vehicles.taking.TakenJournal.{TakenJournal}
use Rattle.mds_commands.specs.declared.vehicles.taking.TakeError.TheVariants.{Fault}
use Rattle.mds_commands.specs.JournalProblem.{TellsJournal, journal_status_of}
use Rattle.mds_commands.specs.Taking.{HasTold, IsJournalBy, IsJournalFault}
use Rattle.mds_commands.specs.Gate.{HasHurtGate, HasMoreLines, HasNoneMore, HasSoundGateUnless}
use Rattle.mds_commands.specs.ListingText.{printed_text}

-- the file was opened, and its lines, a journal with these groups, tell this history
abbrev pub IsToldIn : {R : Type 0} → (R → Option (List ℕ))
    → Source R → List (List ℕ) → List (List (List ℕ)) → List Request → Type 0
IsToldIn {R} remaining source lines groups history =
    (reader : R) × (source.reader ≡ Some reader) × HasTold (remaining reader) lines groups history

-- the file was opened, and this is what its lines come to over the tables
abbrev pub IsTakenIn : {R : Type 0} → (R → Option (List ℕ))
    → Source R → Tables → TakenJournal R → Type 0
IsTakenIn {R} remaining source tables taken =
    (reader : R) × (source.reader ≡ Some reader)
    × IsJournalBy remaining tables (remaining reader) taken

-- why no roster over the tables was had of a file
abbrev pub ExplainsJournal : {R : Type 0} → (R → Option (List ℕ))
    → Source R → Tables → JournalProblem → Type 0
ExplainsJournal {R} remaining source tables (NotAJournal fault) =
    (reader : R)
    × (source.reader ≡ Some reader) × IsJournalFault tables (remaining reader) (Fault fault)
ExplainsJournal remaining source tables (Other (CannotRead path)) = path.now ≡ source.path.now
ExplainsJournal remaining source tables (Other Memory) = IsOpen source
ExplainsJournal remaining source tables (Other (NotATable fault)) = ⊥
ExplainsJournal remaining source tables (Other (NotABatch fault)) = ⊥
ExplainsJournal remaining source tables (Other (NotLines fault)) = ⊥
ExplainsJournal remaining source tables (Other Socket) = ⊥
ExplainsJournal remaining source tables (Other Random) = ⊥
ExplainsJournal remaining source tables (Other Output) = ⊥

-- of a listing: the files, of which one is a journal
module _ {T R : Type 0} (files : Files T R) where
  -- the lines of the journal, with these groups, tell this history, which is lawful under the tables
  abbrev pub HasJournal : List (List ℕ) → List (List (List ℕ)) → List Request → Type 0
  HasJournal lines groups history =
      (tables : Tables) × HasTablesIn files.table_bytes files.table tables
      × IsToldIn files.file_bytes files.file lines groups history × IsLawful tables history

  -- the lines of the journal tell this history, which is lawful under the tables
  abbrev pub HasHistory : List Request → Type 0
  HasHistory history =
      (lines : List (List ℕ)) × (groups : List (List (List ℕ))) × HasJournal lines groups history

  -- this is what its lines come to over the tables
  abbrev pub CameToTaken : TakenJournal R → Type 0
  CameToTaken taken =
      (tables : Tables) × HasTablesIn files.table_bytes files.table tables
      × IsTakenIn files.file_bytes files.file tables taken

  -- where its gate is looked at: it wasn't hurt, or the file, read again, has more lines
  abbrev pub HasSoundGate : Option (Source R) → List (List ℕ) → List (List (List ℕ)) → Type 0
  HasSoundGate None lines groups = Unit {0}
  HasSoundGate (Some again) lines groups =
      (reader : R) × (files.file.reader ≡ Some reader)
      × HasSoundGateUnless (HasMoreLines files.file_bytes again (length lines))
      (files.file_bytes reader) lines groups

  -- this holds of a text that is printed of the journal
  abbrev pub PrintsBy : Option (Source R) → (List ℕ → Type 0) → Type 0
  PrintsBy again Prints =
      (lines : List (List ℕ)) × (groups : List (List (List ℕ))) × (history : List Request)
      × HasJournal lines groups history × HasSoundGate again lines groups
      × Prints (printed_text (is_some again) history (length lines) (length groups))

  -- what is printed of the journal went out
  abbrev pub Listed : Option (Source R) → Option (List ℕ) → Option (List ℕ) → Type 0
  Listed again old new = PrintsBy again (Appends old new)

  -- a front of it went out, and not all of it
  abbrev pub ListedFront : Option (Source R) → Option (List ℕ) → Option (List ℕ) → Type 0
  ListedFront again old new = PrintsBy again (AppendsFront old new)

  -- the tables were had, and then the problem is one of the journal
  abbrev pub ExplainsRequests : JournalProblem → Type 0
  ExplainsRequests problem =
      (tables : Tables) × HasTablesIn files.table_bytes files.table tables
      × ExplainsJournal files.file_bytes files.file tables problem

  -- the problem's cause lies in the file that it names, if it names one; the table file is looked
  -- at first
  abbrev pub ExplainsListing : JournalProblem → Type 0
  ExplainsListing (NotAJournal fault) = ExplainsRequests (NotAJournal fault)
  ExplainsListing (Other (CannotRead path)) =
      ExplainsTable files.table_bytes files.table (CannotRead path)
      ⊎ ExplainsRequests (Other (CannotRead path))
  ExplainsListing (Other (NotATable fault)) =
      ExplainsTable files.table_bytes files.table (NotATable fault)
  ExplainsListing (Other (NotABatch fault)) = ⊥
  ExplainsListing (Other (NotLines fault)) = ⊥
  ExplainsListing (Other Socket) = ⊥
  ExplainsListing (Other Random) =
      (tables : Tables) × HasTablesIn files.table_bytes files.table tables
  ExplainsListing (Other Output) = Unit {0}
  ExplainsListing (Other Memory) = Unit {0}

  -- the same where nothing is printed
  abbrev pub ExplainsJudging : JournalProblem → Type 0
  ExplainsJudging problem = ExplainsListing problem × (problem ≢ Other Output)

  -- what went out before a problem: nothing where a file was at fault, a front of the listing where
  -- the output was
  abbrev pub ListingWentOut : Option (Source R) → JournalProblem → Option (List ℕ) → Option (List ℕ) → Type 0
  ListingWentOut again (NotAJournal fault) old new = Keeps old new
  ListingWentOut again (Other (CannotRead path)) old new = Keeps old new
  ListingWentOut again (Other (NotATable fault)) old new = Keeps old new
  ListingWentOut again (Other (NotABatch fault)) old new = ⊥
  ListingWentOut again (Other (NotLines fault)) old new = ⊥
  ListingWentOut again (Other Socket) old new = ⊥
  ListingWentOut again (Other Random) old new = Keeps old new
  ListingWentOut again (Other Output) old new = ListedFront again old new
  ListingWentOut again (Other Memory) old new = Keeps old new ⊎ ListedFront again old new

  -- the file, read again, has no more lines than so many
  abbrev pub HasNoMoreLines : Option (Source R) → ℕ → Type 0
  HasNoMoreLines None count = ⊥
  HasNoMoreLines (Some again) count = HasNoneMore files.file_bytes again.reader count

  -- the gate of the journal was looked at, and was hurt: this tells the line behind it
  abbrev pub IsGateProblem : Option (Source R) → JournalProblem → Type 0
  IsGateProblem again problem =
      (lines : List (List ℕ)) × (groups : List (List (List ℕ))) × (history : List Request)
      × HasJournal lines groups history × HasNoMoreLines again (length lines)
      × (reader : R) × (files.file.reader ≡ Some reader)
      × HasHurtGate (files.file_bytes reader) lines groups
      × (problem ≡ NotAJournal (Damaged (length lines)))

  -- the file can't be read again
  abbrev pub IsAgainProblem : Option (Source R) → JournalProblem → Type 0
  IsAgainProblem None problem = ⊥
  IsAgainProblem (Some again) problem = problem ≡ Other (CannotRead again.path)

  -- a problem has a cause
  abbrev pub Explains : Option (Source R) → JournalProblem → Type 0
  Explains again problem =
      ExplainsListing problem ⊎ IsGateProblem again problem ⊎ IsAgainProblem again problem

  -- a problem has this status, is explained, and was told
  abbrev pub ListingTold : Option (Source R) → Status → Change → Change → Type 0
  ListingTold again status out faults =
      (problem : JournalProblem) × (status ≡ journal_status_of problem) × Explains again problem
      × ListingWentOut again problem out.before out.after
      × TellsJournal faults.before faults.after problem

  -- what a listing came to: it was printed and nothing was told, or a problem was told
  abbrev pub CameToListing : Option (Source R) → Status → Change → Change → Type 0
  CameToListing again status out faults =
      ((status ≡ Done) × Listed again out.before out.after × Keeps faults.before faults.after)
      ⊎ ListingTold again status out faults
