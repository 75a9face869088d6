-- What the command that prints the lines of a vehicle's events does.
use Rattle.std.specs.Prelude.{◌≡◌, ◌⊎◌, ℕ, List, Option, Some}
use Rattle.std.specs.Io.KnownBytes.{Appends, Keeps}
use Rattle.mds_core.specs.declared.key.Key.{Key}
use Rattle.mds_io.specs.Page.{AppendsFront}
use Rattle.mds_retention.specs.declared.error.LinesError.TheVariants.{Fault}
use Rattle.mds_retention.specs.Events.{HasEvents, HasNothingOf}
use Rattle.mds_retention.specs.Telling.{IsJournalFault}
use Rattle.mds_commands.specs.declared.debug.Named.{Named}
use Rattle.mds_commands.specs.declared.debug.DebugProblem.TheVariants.{BadIdentifier, NotInFile}
use Rattle.mds_commands.specs.declared.debug.DebugProblem.TheVariants.{Other}
use Rattle.mds_commands.specs.declared.events.EventsProblem.{EventsProblem}
use Rattle.mds_commands.specs.declared.events.EventsProblem.TheVariants.{NotAJournal, Debug}
use Rattle.mds_commands.specs.declared.problem.Problem.TheVariants.{CannotRead, Output, Memory}
use Rattle.mds_commands.specs.declared.source.Source.{Source}
use Rattle.mds_commands.specs.declared.status.Status.{Status}
use Rattle.mds_commands.specs.declared.status.Status.TheVariants as status
use Rattle.mds_commands.specs.declared.vehicles.problem.JournalProblem.TheVariants as journal
use Rattle.mds_commands.specs.Change.{Change}
use Rattle.mds_commands.specs.Debug.{IsNamed, TellsDebug, debug_status_of}
use Rattle.mds_commands.specs.JournalProblem.{TellsJournal}
use Rattle.mds_commands.specs.Problem.{Tells}

-- the status that the program ends with
abbrev pub events_status_of : EventsProblem → Status
events_status_of (NotAJournal fault) = status.Fault
events_status_of (Debug problem) = debug_status_of problem

-- what is said of the problem went out, or a front of it
abbrev pub TellsEvents : Option (List ℕ) → Option (List ℕ) → EventsProblem → Type 0
TellsEvents old new (NotAJournal fault) = TellsJournal old new (journal.NotAJournal fault)
TellsEvents old new (Debug problem) = TellsDebug old new problem

-- that the output failed was told, or that there was no memory to tell that
abbrev pub TellsOutput : Status → Change → Type 0
TellsOutput ended faults =
    ((ended ≡ status.Fault) × Tells faults.before faults.after Output)
    ⊎ ((ended ≡ status.NoMemory) × Tells faults.before faults.after Memory)

-- of a journal, and the words that name a vehicle
module _ {R : Type 0} (remaining : R → Option (List ℕ)) (file : Source R) (named : Named) where
  -- the words name this vehicle, and the file was opened
  abbrev pub IsOpenedFor : Key → R → Type 0
  IsOpenedFor key reader = IsNamed named key × (file.reader ≡ Some reader)

  -- these are the lines of the vehicle's events
  abbrev pub HasEventsIn : List ℕ → Type 0
  HasEventsIn lines =
      (key : Key) × (reader : R) × IsOpenedFor key reader × HasEvents key (remaining reader) lines

  -- why there are none; the words are looked at first
  abbrev pub ExplainsEvents : EventsProblem → Type 0
  ExplainsEvents (Debug BadIdentifier) = (key : Key) → IsNamed named key → ⊥
  ExplainsEvents (Debug NotInFile) =
      (key : Key) × (reader : R) × IsOpenedFor key reader × HasNothingOf key (remaining reader)
  ExplainsEvents (Debug (Other (CannotRead path))) =
      ((key : Key) × IsNamed named key) × (path.now ≡ file.path.now)
  ExplainsEvents (Debug (Other Memory)) = Unit {0}
  ExplainsEvents (NotAJournal fault) =
      (key : Key) × (reader : R) × IsOpenedFor key reader
      × IsJournalFault (remaining reader) (Fault fault)
  ExplainsEvents other = ⊥

  -- what the command came to: the lines went out, or a front of them, or nothing, and why was told
  abbrev pub CameToEvents : Status → Change → Change → Type 0
  CameToEvents ended out faults =
      ((lines : List ℕ) × HasEventsIn lines × (ended ≡ status.Done)
      × Appends out.before out.after lines × Keeps faults.before faults.after)
      ⊎ ((lines : List ℕ) × HasEventsIn lines
      × AppendsFront out.before out.after lines × TellsOutput ended faults)
      ⊎ ((problem : EventsProblem) × ExplainsEvents problem × Keeps out.before out.after
      × (ended ≡ events_status_of problem) × TellsEvents faults.before faults.after problem)
