-- What the debugger's command does.
use Rattle.std.specs.Prelude.{◌≡◌, ◌≢◌, ◌⊎◌, ◌+◌, ℕ, List, [], ◌++◌, length, codes, Option, Some}
use Rattle.std.specs.Io.KnownBytes.{Appends, Consumes, Keeps}
use Rattle.uuid.specs.Text.{parsed}
use Rattle.mds_table.specs.declared.state.State.TheVariants as state
use Rattle.mds_table.specs.Tables.{Tables}
use Rattle.mds_core.specs.declared.key.Key.{Key}
use Rattle.mds_batch.specs.declared.item.EventItem.{EventItem}
use Rattle.mds_trace.specs.declared.report.Opening.TheVariants.{Removed}
use Rattle.mds_trace.specs.declared.report.Verdict.{Verdict}
use Rattle.mds_trace.specs.declared.session.Place.{Place}
use Rattle.mds_trace.specs.Replay.{AreVerdicts, accepted_of, prior_of}
use Rattle.mds_trace.specs.Walk.{Walk}
use Rattle.mds_trace.specs.declared.line.CountsLine.{CountsLine}
use Rattle.mds_trace.specs.declared.script.ScriptCommand.{ScriptCommand}
use Rattle.mds_trace.specs.Input.{IsRead, max_script}
use Rattle.mds_trace.specs.Printed.{PrintsStart, PrintsScript, PrintsFront}
use Rattle.mds_trace.specs.Script.{IsScript}
use Rattle.mds_trace.specs.Vehicle.{told_of}
use Rattle.mds_io.specs.Page.{AppendsFront, AppendsUpTo, with_newline}
use Rattle.mds_io.specs.Read.{ConsumesUpTo}
use Rattle.mds_io.specs.declared.page.PrintError.{PrintError}
use Rattle.mds_io.specs.declared.page.PrintError.TheVariants as write
use Rattle.mds_commands.specs.declared.commands.ReplayOptions.{ReplayOptions}
use Rattle.mds_commands.specs.declared.debug.Named.{Named}
use Rattle.mds_commands.specs.declared.debug.DebugProblem.{DebugProblem}
use Rattle.mds_commands.specs.declared.debug.DebugProblem.TheVariants.{BadIdentifier}
use Rattle.mds_commands.specs.declared.debug.DebugProblem.TheVariants.{NotInFile, Other}
use Rattle.mds_commands.specs.declared.problem.Problem.TheVariants as problem
use Rattle.mds_commands.specs.declared.source.Form.TheVariants.{Batch}
use Rattle.mds_commands.specs.declared.status.Status.{Status}
use Rattle.mds_commands.specs.declared.status.Status.TheVariants as status
use Rattle.mds_commands.specs.Command.{ExplainsReplay, status_on}
use Rattle.mds_commands.specs.Problem.{Tells, status_of, written_problem}
use Rattle.mds_commands.specs.Source.{HasTablesIn, HasItemsIn}
use Rattle.mds_commands.specs.Files.{Files}
use Rattle.mds_commands.specs.Change.{Change}

-- two words are the identifiers of a vehicle
abbrev pub IsNamed : Named → Key → Type 0
IsNamed named key =
    (parsed named.provider.now ≡ Some key.provider) × (parsed named.device.now ≡ Some key.device)

-- the status that the program ends with
abbrev pub debug_status_of : DebugProblem → Status
debug_status_of BadIdentifier = status.BadWords
debug_status_of NotInFile = status.Refused
debug_status_of (Other problem) = status_of problem

-- the problem is one that other commands may have
abbrev pub IsOther : DebugProblem → Type 0
IsOther BadIdentifier = ⊥
IsOther NotInFile = ⊥
IsOther (Other problem) = Unit {0}

-- what is said of the problem went out, or a front of it
abbrev pub TellsDebug : Option (List ℕ) → Option (List ℕ) → DebugProblem → Type 0
TellsDebug old new BadIdentifier =
    AppendsUpTo old new (with_newline (codes "mds_city: bad identifier"))
TellsDebug old new NotInFile =
    AppendsUpTo old new (with_newline (codes "mds_city: vehicle not in file"))
TellsDebug old new (Other problem) = Tells old new problem

-- the session over the events of a vehicle that a replay of these items accepts, before the first
-- of them, and how many of the vehicle's events are accepted and refused; there are some
pub record IsOpened (tables : Tables) (items : List EventItem) (key : Key) (walk : Walk)
    (counts : CountsLine) : Type 0 where
  pub lines : List Verdict
  pub verdicts : AreVerdicts Removed tables items lines
  pub walk_is : walk
      ≡ record {
        tables = tables;
        opening = state.Removed;
        events = prior_of key (accepted_of items lines);
        place = record { event = 0; passed = 0 };
      }
  pub events : counts.events ≡ length (prior_of key (accepted_of items lines))
  pub all : counts.events + counts.refused ≡ told_of key items
  pub some_told : told_of key items ≢ 0

-- what a session's start and a script print went out
abbrev pub Debugged : Walk → CountsLine → List ℕ → Option (List ℕ) → Option (List ℕ) → Type 0
Debugged walk counts bytes old new =
    (start : List ℕ) × (script : List (Option ScriptCommand)) × (to : Place) × (text : List ℕ)
    × PrintsStart walk counts start × IsScript bytes script
    × PrintsScript walk script to text × Appends old new (start ++ text)

-- besides, the script that was read: all that the reader had or the first of it, or a front where
-- reading broke off
abbrev pub Shown : Walk → CountsLine → Option (List ℕ)
    → Option (List ℕ) → Option (List ℕ) → Option (List ℕ) → Type 0
Shown walk counts input input_new old new =
    (bytes : List ℕ) × IsRead input input_new bytes × Debugged walk counts bytes old new

-- a script was read, and where printing what it prints stopped so, a front of that went out
abbrev pub WalksFront : PrintError → Walk → Option (List ℕ)
    → Option (List ℕ) → Option (List ℕ) → Option (List ℕ) → Type 0
WalksFront fault walk input input_new old new =
    (bytes : List ℕ) × IsRead input input_new bytes × (script : List (Option ScriptCommand))
    × IsScript bytes script × PrintsFront fault walk script old new

-- the same behind a session's start; for want of memory maybe nothing, however far the script was
-- read
abbrev pub FollowsFront : PrintError → Walk → Option (List ℕ)
    → Option (List ℕ) → Option (List ℕ) → Option (List ℕ) → Type 0
FollowsFront write.Device walk input input_new old new =
    WalksFront write.Device walk input input_new old new
FollowsFront write.Memory walk input input_new old new =
    (ConsumesUpTo max_script input input_new × Keeps old new)
    ⊎ WalksFront write.Memory walk input input_new old new

-- the start of a session went out, and then a front of what the script that was read prints
abbrev pub DebugsPart : PrintError → Walk → CountsLine → Change → Change → Type 0
DebugsPart fault walk counts input out =
    (start : List ℕ) × PrintsStart walk counts start × (middle : Option (List ℕ))
    × Appends out.before middle start
    × FollowsFront fault walk input.before input.after middle out.after

-- a front of what a session's start and a script print went out, where showing it stopped so; until
-- the start is out nothing of the script is read
abbrev pub DebugsFront : PrintError → Walk → CountsLine → Change → Change → Type 0
DebugsFront fault walk counts input out =
    (Consumes input.before input.after [] × (start : List ℕ)
    × PrintsStart walk counts start × AppendsFront out.before out.after start)
    ⊎ DebugsPart fault walk counts input out

-- the problem is a fault of showing a session, of which a front went out
abbrev pub StopsShowing : DebugProblem → Walk → CountsLine → Change → Change → Type 0
StopsShowing problem walk counts input out =
    (fault : PrintError) × (problem ≡ Other (written_problem fault))
    × DebugsFront fault walk counts input out

-- the replay that the debugger makes, by a single worker
abbrev pub debug_options : ReplayOptions
debug_options = record { opening = Removed; form = Batch; workers = 1 }

-- of the debugger: the files, of which one is of events, and the words that name a vehicle
module _ {T R : Type 0} (files : Files T R) (named : Named) where
  -- the words name this vehicle, and these are the tables and the items of the files
  abbrev pub HasFiles : Key → Tables → List EventItem → Type 0
  HasFiles key tables items =
      IsNamed named key × HasTablesIn files.table_bytes files.table tables
      × HasItemsIn Batch files.file_bytes files.file items

  -- the session on the vehicle that the words name
  abbrev pub HasSession : Walk → CountsLine → Type 0
  HasSession walk counts =
      (key : Key) × (tables : Tables) × (items : List EventItem)
      × HasFiles key tables items × IsOpened tables items key walk counts

  -- the problem's cause; the words are looked at first, then the table file, the file, and the
  -- vehicle
  abbrev pub ExplainsDebug : DebugProblem → Type 0
  ExplainsDebug BadIdentifier = (key : Key) → IsNamed named key → ⊥
  ExplainsDebug NotInFile =
      (key : Key) × (tables : Tables) × (items : List EventItem)
      × HasFiles key tables items × (told_of key items ≡ 0)
  ExplainsDebug (Other problem) =
      ((key : Key) × IsNamed named key) × ExplainsReplay debug_options files problem

  -- a front of what the debugger prints went out
  abbrev pub DebugPrintsFront : PrintError → Change → Change → Type 0
  DebugPrintsFront fault input out =
      (walk : Walk) × (counts : CountsLine)
      × HasSession walk counts × DebugsFront fault walk counts input out

  -- what went out before a problem: a front where the output failed, and maybe where memory was
  -- wanting; else nothing, and nothing of the script was read
  abbrev pub DebugWentOut : DebugProblem → Change → Change → Type 0
  DebugWentOut (Other problem.Output) input out = DebugPrintsFront write.Device input out
  DebugWentOut (Other problem.Memory) input out =
      (Consumes input.before input.after [] × Keeps out.before out.after)
      ⊎ DebugPrintsFront write.Memory input out
  DebugWentOut problem input out = Consumes input.before input.after [] × Keeps out.before out.after

  -- the session was shown, as the script that was read says, and the status tells whether an event
  -- of the vehicle was refused
  abbrev pub Shows : Status → Change → Change → Type 0
  Shows ended input out =
      (walk : Walk) × (counts : CountsLine) × HasSession walk counts
      × Shown walk counts input.before input.after out.before out.after
      × (ended ≡ status_on counts.refused)

  -- what the debugger did: it showed a session, or told why it couldn't
  abbrev pub Debugs : Status → Change → Change → Change → Type 0
  Debugs ended input out faults =
      (Shows ended input out × Keeps faults.before faults.after)
      ⊎ ((problem : DebugProblem) × (ended ≡ debug_status_of problem) × ExplainsDebug problem
      × DebugWentOut problem input out × TellsDebug faults.before faults.after problem)
