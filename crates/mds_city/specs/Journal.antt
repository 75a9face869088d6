-- What the command that serves over a journal does.
use Rattle.std.specs.Prelude.{◌≡◌, ◌⊎◌, ℕ, ◌+◌, List, length, codes, Option, Result, Ok, Err}
use Rattle.std.specs.Io.KnownBytes.{Appends, Keeps}
use Rattle.mds_table.specs.Tables.{Tables}
use Rattle.mds_io.specs.Page.{AppendsFront, AppendsUpTo, with_newline}
use Rattle.mds_pool.specs.Serving.{AtEnd, IsEnded}
use Rattle.mds_pool.specs.declared.serving.Stop.TheVariants as stop
use Rattle.mds_pool.specs.declared.recorded_book.RecordedStop.{RecordedStop}
use Rattle.mds_pool.specs.declared.recorded_book.RecordedStop.TheVariants as recorded
use Rattle.mds_file.specs.declared.fault.FileFault.{FileFault}
use Rattle.mds_file.specs.declared.fault.FileFault.TheVariants as file
use Rattle.mds_follow.specs.declared.start_fault.StartFault.{StartFault}
use Rattle.mds_follow.specs.declared.start_fault.StartFault.TheVariants as start
use Rattle.mds_commands.specs.declared.problem.Problem.{Problem}
use Rattle.mds_commands.specs.declared.problem.Problem.TheVariants.{CannotRead, Socket}
use Rattle.mds_commands.specs.declared.problem.Problem.TheVariants.{Random, Memory}
use Rattle.mds_commands.specs.declared.status.Status.{Status}
use Rattle.mds_commands.specs.declared.status.Status.TheVariants as status
use Rattle.mds_commands.specs.Source.{HasTablesIn, ExplainsTable}
use Rattle.mds_commands.specs.declared.vehicles.problem.JournalProblem.TheVariants.{NotAJournal}
use Rattle.mds_commands.specs.declared.vehicles.problem.JournalProblem.TheVariants.{Other}
use Rattle.mds_commands.specs.JournalProblem.{TellsJournal, journal_status_of}
use Rattle.mds_city.specs.declared.journal.ServeProblem.{ServeProblem}
use Rattle.mds_city.specs.declared.journal.ServeProblem.TheVariants.{InUse, NotRecorded, Journal}
use Rattle.mds_city.specs.declared.journal.BookStop.{BookStop}
use Rattle.mds_city.specs.declared.journal.BookStop.TheVariants.{Start, Listen, Print, Serve}
use Rattle.mds_city.specs.declared.serve.ListenFault.{ListenFault}
use Rattle.mds_city.specs.declared.serve.ListenFault.TheVariants as listen
use Rattle.mds_city.specs.declared.serve.ServeOptions.{ServeOptions}
use Rattle.mds_commands.specs.Problem.{written_problem}
use Rattle.mds_city.specs.Host.{ServerHost, TableFile}
use Rattle.mds_commands.specs.Change.{Change}
use Rattle.mds_city.specs.Outcome.{Outcome}
use Rattle.mds_city.specs.Serve.{SaysAccepted, listening_line}

-- the status that the program ends with
abbrev pub serve_status_of : ServeProblem → Status
serve_status_of InUse = status.Fault
serve_status_of NotRecorded = status.Fault
serve_status_of (Journal problem) = journal_status_of problem

-- what is said of the problem went out, or a front of it
abbrev pub TellsServe : Option (List ℕ) → Option (List ℕ) → ServeProblem → Type 0
TellsServe old new InUse = AppendsUpTo old new (with_newline (codes "mds_city: journal in use"))
TellsServe old new NotRecorded = AppendsUpTo old new (with_newline (codes "mds_city: journal"))
TellsServe old new (Journal problem) = TellsJournal old new problem

-- a problem has this status, and was told
abbrev pub IsServeTold : ServeProblem → Status → Change → Type 0
IsServeTold problem ended faults =
    (ended ≡ serve_status_of problem) × TellsServe faults.before faults.after problem

-- the problem is that the file of this path can't be read
abbrev pub IsUnreadable : List ℕ → ServeProblem → Type 0
IsUnreadable path (Journal (Other (CannotRead named))) = named.now ≡ path
IsUnreadable path problem = ⊥

-- the problem of a journal of this path that can't be opened
abbrev pub IsFileProblem : List ℕ → FileFault → ServeProblem → Type 0
IsFileProblem path file.CannotRead problem = IsUnreadable path problem
IsFileProblem path file.InUse problem = problem ≡ InUse
IsFileProblem path file.Memory problem = problem ≡ Journal (Other Memory)

-- the problem of a book that can't be opened over the journal of this path
abbrev pub IsStartProblem : List ℕ → StartFault → ServeProblem → Type 0
IsStartProblem path start.Memory problem = problem ≡ Journal (Other Memory)
IsStartProblem path start.Device problem = IsUnreadable path problem
IsStartProblem path (start.Journal fault) problem = problem ≡ Journal (NotAJournal fault)
IsStartProblem path start.Shared problem = IsUnreadable path problem
IsStartProblem path start.CutOff problem = IsUnreadable path problem

-- the problem by which serving stopped
abbrev pub IsServingProblem : RecordedStop → ServeProblem → Type 0
IsServingProblem recorded.Journal problem = problem ≡ NotRecorded
IsServingProblem (recorded.Serve stop.Memory) problem = problem ≡ Journal (Other Memory)
IsServingProblem (recorded.Serve stop.Accept) problem = problem ≡ Journal (Other Socket)

-- the problem that nothing listens at a port
abbrev pub IsListenProblem : ListenFault → ServeProblem → Type 0
IsListenProblem listen.Refused problem = problem ≡ Journal (Other Socket)
IsListenProblem listen.Memory problem = problem ≡ Journal (Other Memory)

-- the problem by which a book over the journal of this path wasn't served to its end
abbrev pub IsStopProblem : List ℕ → BookStop → ServeProblem → Type 0
IsStopProblem path (Start fault) problem = IsStartProblem path fault problem
IsStopProblem path (Listen fault) problem = IsListenProblem fault problem
IsStopProblem path (Print fault) problem = problem ≡ Journal (Other (written_problem fault))
IsStopProblem path (Serve stop) problem = IsServingProblem stop problem

-- of a host: the relation of a path to what comes of opening the journal there
module _ {J : Type 0} (opens_journal : List ℕ → Result J FileFault → Type 0) where
  -- the host opened the journal of this path
  abbrev pub HadJournal : List ℕ → Type 0
  HadJournal path = (file : J) × opens_journal path (Ok file)

  -- why the journal of this path isn't open: the host didn't open it, or it did, and it isn't read
  -- from its first request on
  abbrev pub IsJournalStop : List ℕ → ServeProblem → Type 0
  IsJournalStop path problem =
      ((fault : FileFault) × opens_journal path (Err fault) × IsFileProblem path fault problem)
      ⊎ (HadJournal path × ((fault : StartFault) × IsStartProblem path fault problem))

-- so many requests were accepted by a settled book over these tables, whose workers answered so
-- many connections each
abbrev pub HasAccepted : Tables → ℕ → ℕ → ℕ → Type 0
HasAccepted tables workers each accepted =
    (ended : AtEnd) × IsEnded tables workers each (Ok ended)
    × (accepted ≡ length ended.all.first + length ended.all.second)

-- of the command: the relation of what listens, as was asked, to its port's number
module _ {L : Type 0} (listens : L → ℕ → Type 0) where
  -- the line went out that says where it listens
  abbrev pub SaidListening : Change → Type 0
  SaidListening out =
      (listening : L) × (port : ℕ) × listens listening port
      × Appends out.before out.after (with_newline (listening_line port))

  -- a front of it did
  abbrev pub SaidFront : Change → Type 0
  SaidFront out =
      (listening : L) × (port : ℕ) × listens listening port
      × AppendsFront out.before out.after (with_newline (listening_line port))

  -- a book over these tables was served by so many workers, and holds so many requests at the end
  abbrev pub ServedBook : Tables → ℕ → ℕ → Change → ℕ → Type 0
  ServedBook tables workers each out accepted =
      SaidListening out × HasAccepted tables workers each accepted

  -- what went out where no book was served to its end
  abbrev pub StopsBook : Change → BookStop → Type 0
  StopsBook out (Start fault) = Keeps out.before out.after
  StopsBook out (Listen fault) = Keeps out.before out.after
  StopsBook out (Print fault) = SaidFront out
  StopsBook out (Serve stop) = SaidListening out

-- the tables of this table file were had
abbrev pub HadTables : {T : Type 0} → TableFile T → Type 0
HadTables table = (tables : Tables) × HasTablesIn table.bytes table.file tables

-- of the command: its host, and the table file
module _ {L J T : Type 0} (host : ServerHost L J) (table : TableFile T) where
  -- why nothing was served to its end, over the journal of this path and as was asked: a fault of
  -- the table file, no random numbers, no port for figures, or then the journal, the port or what
  -- came of serving; and what went out
  abbrev pub StopsOver : List ℕ → ServeOptions → Change → ServeProblem → Type 0
  StopsOver path asked out problem =
      ((told : Problem) × (problem ≡ Journal (Other told))
      × ExplainsTable table.bytes table.file told × Keeps out.before out.after)
      ⊎ (HadTables table × (problem ≡ Journal (Other Random)) × Keeps out.before out.after)
      ⊎ (HadTables table × ((fault : ListenFault) × IsListenProblem fault problem)
      × Keeps out.before out.after)
      ⊎ (HadTables table
      × IsJournalStop host.opens_journal path problem × Keeps out.before out.after)
      ⊎ (HadTables table × HadJournal host.opens_journal path
      × ((stop : BookStop)
      × IsStopProblem path stop problem × StopsBook (host.listens asked.port) out stop))

  -- the journal of this path was opened, and a book over the tables was served to its end, as was
  -- asked, and holds so many requests
  abbrev pub ServedOver : List ℕ → ServeOptions → Change → ℕ → Type 0
  ServedOver path asked out accepted =
      (tables : Tables) × HasTablesIn table.bytes table.file tables
      × HadJournal host.opens_journal path
      × ServedBook (host.listens asked.port) tables asked.workers asked.each out accepted

  -- what the command came to: it stopped for a problem, which was told, or for want of memory to
  -- tell it; or it served to the end, and said how many requests the book holds
  abbrev pub CameToServeOver : List ℕ → ServeOptions → Outcome → Type 0
  CameToServeOver path asked outcome =
      ((problem : ServeProblem) × StopsOver path asked outcome.out problem
      × (IsServeTold problem outcome.ended outcome.faults
      ⊎ IsServeTold (Journal (Other Memory)) outcome.ended outcome.faults))
      ⊎ ((accepted : ℕ) × (out_then : Option (List ℕ))
      × ServedOver path asked (record outcome.out { after = out_then }) accepted
      × SaysAccepted accepted (record outcome { out = record outcome.out { before = out_then } }))
