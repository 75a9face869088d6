-- What the program does with the words of its command line.
use Rattle.std.specs.Prelude.{◌≡◌, ◌≢◌, ◌⊎◌, ℕ, ◌^◌, ◌-◌, List, Option, Some}
use Rattle.std.specs.Prelude.{None, Bool, true, false, codes, option_map}
use Rattle.std.specs.Borrow.{Bor}
use Rattle.std.specs.Io.KnownBytes.{Keeps}
use Rattle.mds_trace.specs.declared.report.Opening.{Opening}
use Rattle.mds_trace.specs.declared.report.Opening.TheVariants.{Removed, Any}
use Rattle.mds_commands.specs.declared.commands.ReplayOptions.{ReplayOptions}
use Rattle.mds_commands.specs.declared.source.Form.{Form}
use Rattle.mds_commands.specs.declared.source.Form.TheVariants.{Batch, Lines}
use Rattle.mds_book.specs.Books.{IsSeatCount}
use Rattle.mds_trace.specs.WithFault.{IsWorkerCount}
use Rattle.mds_commands.specs.declared.problem.Problem.TheVariants as problem
use Rattle.mds_commands.specs.declared.source.Source.{Source}
use Rattle.mds_commands.specs.declared.status.Status.{Status}
use Rattle.mds_commands.specs.declared.status.Status.TheVariants as status
use Rattle.mds_args.specs.declared.cuts.CutWords.{CutWords}
use Rattle.mds_args.specs.declared.words.Command.{Command}
use Rattle.mds_args.specs.declared.words.Command.TheVariants.{Serve, Replay, Debug, Table, Vehicles}
use Rattle.mds_args.specs.declared.words.Command.TheVariants.{Compact, Events}
use Rattle.mds_commands.specs.Change.{Change, change_of}
use Rattle.mds_commands.specs.Files.{files_of}
use Rattle.mds_commands.specs.Command.{CameToReplay, CameToTable}
use Rattle.mds_commands.specs.Debug.{Debugs, TellsDebug, debug_status_of}
use Rattle.mds_commands.specs.Events.{CameToEvents}
use Rattle.mds_commands.specs.JournalProblem.{TellsJournal, journal_status_of}
use Rattle.mds_commands.specs.Listing.{CameToListing, ExplainsJudging, HasHistory}
use Rattle.mds_commands.specs.declared.debug.DebugProblem.{DebugProblem}
use Rattle.mds_commands.specs.declared.debug.Named.{Named}
use Rattle.mds_commands.specs.declared.vehicles.problem.JournalProblem.{JournalProblem}
use Rattle.mds_core.specs.declared.request.Request.{Request}
use Rattle.mds_city.specs.declared.compact.CompactAsked.{CompactAsked}
use Rattle.mds_city.specs.declared.serve.ServeOptions.{ServeOptions}
use Rattle.mds_city.specs.Host.{FileHost, HostFiles, ServerHost, StandardInput, TableFile}
use Rattle.mds_city.specs.Compact.{CameToCompact}
use Rattle.mds_city.specs.Cuts.{AreCutsOf, ExplainsCuts}
use Rattle.mds_city.specs.Follow.{FollowHost, CameToFollow}
use Rattle.mds_city.specs.declared.follow.FollowAsked.{FollowAsked}
use Rattle.mds_city.specs.Outcome.{Outcome}
use Rattle.mds_city.specs.Serve.{CameToServe}
use Rattle.mds_city.specs.Journal.{CameToServeOver}
use Rattle.mds_commands.specs.Problem.{Tells}
use Rattle.mds_args.specs.declared.error.WordsError.{WordsError}
use Rattle.mds_args.specs.declared.error.WordsErrorKind.{WordsErrorKind}
use Rattle.mds_args.specs.declared.error.WordsErrorKind.TheVariants.{Help, Mistake, Memory}
use Rattle.mds_args.specs.Error.{HasCause, words_kind}
use Rattle.mds_args.specs.Words.{IsAskedBy}

-- the number of workers, where there are any, is one of seats that a book may have, or one of
-- workers that a replay may have
abbrev pub HasWorkers : Command → Type 0
HasWorkers (Serve port each workers path journal metrics) = IsSeatCount workers
HasWorkers (Replay file path any lines unlimited workers) = IsWorkerCount workers
HasWorkers other = Unit {0}

-- the want of memory was told
abbrev pub TellsNoMemory : Status → Change → Type 0
TellsNoMemory ended faults =
    (ended ≡ status.NoMemory) × Tells faults.before faults.after problem.Memory

-- what was done about an error of this kind: help keeps the fault writer, unless the output failed
-- or there was no memory to tell that; mistakes keep the output
abbrev pub Explains : WordsErrorKind → Outcome → Type 0
Explains Help outcome =
    ((outcome.ended ≡ status.Done) × Keeps outcome.faults.before outcome.faults.after)
    ⊎ ((outcome.ended ≡ status.Fault)
    × Tells outcome.faults.before outcome.faults.after problem.Output)
    ⊎ TellsNoMemory outcome.ended outcome.faults
Explains Mistake outcome =
    (outcome.ended ≡ status.BadWords) × Keeps outcome.out.before outcome.out.after
Explains Memory outcome =
    TellsNoMemory outcome.ended outcome.faults × Keeps outcome.out.before outcome.out.after

-- what the vehicles of a replay hold at first: by the flag `--any` nothing is taken for given
abbrev pub opening_if : Bool → Opening
opening_if true = Any
opening_if false = Removed

-- how the file of a replay has its items: by the flag `--lines` one on each line
abbrev pub form_if : Bool → Form
form_if true = Lines
form_if false = Batch

-- how many connections each worker answers: as many as can be counted where it goes on until the
-- process is stopped
abbrev pub connections_each : Option ℕ → ℕ
connections_each (Some each) = each
connections_each None = 2 ^ 64 - 1

-- the time from which on all events stay that cuts leave: the first one where none is given
abbrev pub first_kept : Option ℕ → ℕ
first_kept (Some time) = time
first_kept None = 0

-- what these flags and so many workers ask of a replay
abbrev pub options_of : Bool → Bool → ℕ → ReplayOptions
options_of any lines workers =
    record { opening = opening_if any; form = form_if lines; workers = workers }

-- of a host: the relation of a path to what comes of opening the file there
module _ {F : Type 0} (opens : List ℕ → Option F → Type 0) where
  -- the source is the file of this path, opened if it can be
  abbrev pub IsFileOf : List ℕ → Source F → Type 0
  IsFileOf path source = (source.path.now ≡ path) × opens path source.reader

  -- the source is the file that is named, and there is none where none is
  abbrev pub IsFileNamed : Option (List ℕ) → Option (Source F) → Type 0
  IsFileNamed None source = source ≡ None
  IsFileNamed (Some path) None = ⊥
  IsFileNamed (Some path) (Some source) = IsFileOf path source

-- a file is given again where this is asked, and none where it isn't
abbrev pub IsGivenAgain : {R : Type 0} → (Source R → Type 0) → Bool → Option (Source R) → Type 0
IsGivenAgain Given false again = again ≡ None
IsGivenAgain Given true None = ⊥
IsGivenAgain Given true (Some again) = Given again

-- of the program: the files of its host, and standard input
module _ {F I : Type 0} (files : FileHost F) (input : StandardInput I) where
  -- a listing of the journal of this path, which is standard input for `-` alone, came to these
  abbrev pub CarriesVehicles : List ℕ → Bool → Option (Source F) → Outcome → Type 0
  CarriesVehicles path check table outcome =
      ((path ≡ codes "-") × (file : Source I)
      × (file.path.now ≡ path) × (file.reader ≡ Some input.reader)
      × (again : Option (Source I)) × IsGivenAgain (λ source. source.reader ≡ None) check again
      × CameToListing (files_of files.bytes table input.bytes file) again
      outcome.ended outcome.out outcome.faults)
      ⊎ ((path ≢ codes "-") × (file : Source F) × IsFileOf files.opens path file
      × (again : Option (Source F)) × IsGivenAgain (IsFileOf files.opens path) check again
      × CameToListing (files_of files.bytes table files.bytes file) again
      outcome.ended outcome.out outcome.faults)

  -- a print of the lines of a vehicle's events in the journal of this path, which is standard input
  -- for `-` alone, came to these
  abbrev pub CarriesEvents : List ℕ → Named → Outcome → Type 0
  CarriesEvents path named outcome =
      ((path ≡ codes "-") × (file : Source I)
      × (file.path.now ≡ path) × (file.reader ≡ Some input.reader)
      × CameToEvents input.bytes file named outcome.ended outcome.out outcome.faults)
      ⊎ ((path ≢ codes "-") × (file : Source F) × IsFileOf files.opens path file
      × CameToEvents files.bytes file named outcome.ended outcome.out outcome.faults)

  -- a replay of the file of this path, which is standard input for `-` alone, came to these
  abbrev pub CarriesReplay : ReplayOptions → List ℕ → Option (Source F) → Outcome → Type 0
  CarriesReplay options path table outcome =
      ((path ≡ codes "-") × (file : Source I)
      × (file.path.now ≡ path) × (file.reader ≡ Some input.reader)
      × CameToReplay options (files_of files.bytes table input.bytes file)
      outcome.ended outcome.out outcome.faults)
      ⊎ ((path ≢ codes "-") × (file : Source F) × IsFileOf files.opens path file
      × CameToReplay options (files_of files.bytes table files.bytes file)
      outcome.ended outcome.out outcome.faults)

-- of serving: the host, and the table file
module _ {L J T : Type 0} (host : ServerHost L J) (table : TableFile T) where
  -- serving over the journal of this path, or over none, came to these, as was asked
  abbrev pub CarriesServe : Option (List ℕ) → ServeOptions → Outcome → Type 0
  CarriesServe None asked outcome = CameToServe host.listens table asked outcome
  CarriesServe (Some path) asked outcome = CameToServeOver host table path asked outcome

-- of a compaction: what opens files
module _ {F : Type 0} (files : FileHost F) where
  -- the table file and the journal of these paths, opened if they can be
  abbrev pub AreJudged : List ℕ → List ℕ → Source F → Source F → Type 0
  AreJudged path old table file = IsFileOf files.opens path table × IsFileOf files.opens old file

  -- each request of the journal of this path is accepted over the tables of the file that is named;
  -- where none is named nothing is said of them
  abbrev pub IsJudged : Option (List ℕ) → List ℕ → Type 0
  IsJudged None old = Unit {0}
  IsJudged (Some path) old =
      (table : Source F) × (file : Source F) × AreJudged path old table file
      × (history : List Request)
      × HasHistory (files_of files.bytes (Some table) files.bytes file) history

  -- why that isn't so: what hinders a list of the vehicles, too
  abbrev pub ExplainsJudged : Option (List ℕ) → List ℕ → JournalProblem → Type 0
  ExplainsJudged None old problem = ⊥
  ExplainsJudged (Some path) old problem =
      (table : Source F) × (file : Source F) × AreJudged path old table file
      × ExplainsJudging (files_of files.bytes (Some table) files.bytes file) problem

-- what the words of a compaction ask for
pub record CutAsked : Type 0 where
  -- the paths of the old journal and of the new one
  pub old : Bor (List ℕ)
  pub new : Bor (List ℕ)
  -- the time from which on all events stay that the cuts leave
  pub before : ℕ
  -- the cuts, as they were written
  pub words : List CutWords

-- this is what is asked by them
pub record AsksSo (words : CutAsked) (asked : CompactAsked) : Type 0 where
  pub old : asked.old ≡ words.old
  pub new : asked.new ≡ words.new
  pub before : asked.before ≡ words.before
  pub cuts : AreCutsOf words.words asked.cuts.now

-- the files of a host, of which it also makes new ones
module _ {F N : Type 0} (all : HostFiles F N) where
  -- a compaction came to these, where the old journal was judged by the table file that is named, if
  -- one is; or there is none, and why was told
  abbrev pub CarriesCompact : Option (List ℕ) → CompactAsked → Outcome → Type 0
  CarriesCompact table asked outcome =
      (IsJudged all.opener table asked.old.now × CameToCompact all asked outcome)
      ⊎ ((problem : JournalProblem) × ExplainsJudged all.opener table asked.old.now problem
      × Keeps outcome.out.before outcome.out.after × (outcome.ended ≡ journal_status_of problem)
      × TellsJournal outcome.faults.before outcome.faults.after problem)

  -- a compaction by the cuts that the words ask for came to these; or they ask for none, and why was
  -- told
  abbrev pub CarriesCuts : Option (List ℕ) → CutAsked → Outcome → Type 0
  CarriesCuts table words outcome =
      ((asked : CompactAsked) × AsksSo words asked × CarriesCompact table asked outcome)
      ⊎ ((problem : DebugProblem) × ExplainsCuts words.words problem
      × Keeps outcome.out.before outcome.out.after × (outcome.ended ≡ debug_status_of problem)
      × TellsDebug outcome.faults.before outcome.faults.after problem)

-- the files of a host, of which it also makes new ones, and journals of servers
module _ {F N G : Type 0} (all : HostFiles F N) (journals : FollowHost G) where
  -- a compaction beside a server came to these, where the old journal was judged by the table file
  -- that is named, if one is; or there is none, and why was told
  abbrev pub CarriesFollow : Option (List ℕ) → FollowAsked → Outcome → Type 0
  CarriesFollow table asked outcome =
      (IsJudged all.opener table asked.old.now × CameToFollow all journals asked outcome)
      ⊎ ((problem : JournalProblem) × ExplainsJudged all.opener table asked.old.now problem
      × Keeps outcome.out.before outcome.out.after × (outcome.ended ≡ journal_status_of problem)
      × TellsJournal outcome.faults.before outcome.faults.after problem)

-- of the program: the files of its host, what that gives a server, and standard input
module _ {F N G L J I : Type 0} (all : HostFiles F N) (journals : FollowHost G)
    (host : ServerHost L J) (input : StandardInput I) where
  -- what a command did: it read the files that it names, and came to these
  abbrev pub Carries : Command → Outcome → Type 0
  Carries (Serve port each workers path journal metrics) outcome =
      (table : Option (Source F))
      × IsFileNamed all.opener.opens (option_map (λ named. named.now) path) table
      × CarriesServe host (record { bytes = all.opener.bytes; file = table })
      (option_map (λ named. named.now) journal)
      (record {
        port = port;
        workers = workers;
        each = connections_each each;
        metrics = metrics;
      }) outcome
  Carries (Table path) outcome =
      (table : Option (Source F))
      × IsFileNamed all.opener.opens (option_map (λ named. named.now) path) table
      × CameToTable all.opener.bytes table outcome.ended outcome.out outcome.faults
  -- of a replay without limits nothing is said here
  Carries (Replay file path any lines unlimited workers) outcome =
      unlimited ≡ false → (table : Option (Source F))
      × IsFileNamed all.opener.opens (option_map (λ named. named.now) path) table
      × CarriesReplay all.opener input (options_of any lines workers) file.now table outcome
  Carries (Vehicles file path check) outcome =
      (table : Option (Source F))
      × IsFileNamed all.opener.opens (option_map (λ named. named.now) path) table
      × CarriesVehicles all.opener input file.now check table outcome
  Carries (Debug file provider device path) outcome =
      (table : Option (Source F))
      × IsFileNamed all.opener.opens (option_map (λ named. named.now) path) table
      × (events : Source F) × IsFileOf all.opener.opens file.now events
      × (input_new : Option (List ℕ))
      × Debugs (files_of all.opener.bytes table all.opener.bytes events)
      (record { provider = provider; device = device }) outcome.ended
      (change_of (input.bytes input.reader) input_new) outcome.out outcome.faults
  Carries (Compact old new before cuts follow path) outcome =
      (follow ≡ false → CarriesCuts all (option_map (λ named. named.now) path)
      (record { old = old; new = new; before = first_kept before; words = cuts.items }) outcome)
      × (follow ≡ true → CarriesFollow all journals (option_map (λ named. named.now) path)
      (record { old = old; new = new; before = first_kept before }) outcome)
  Carries (Events file provider device) outcome =
      CarriesEvents all.opener input file.now (record { provider = provider; device = device })
      outcome

  -- what the program did with words: it carried out the command that they ask for, or explained
  -- why they give none
  abbrev pub Runs : List (List ℕ) → Outcome → Type 0
  Runs words outcome =
      ((command : Command) × IsAskedBy words command × Carries command outcome)
      ⊎ ((error : WordsError)
      × HasCause words error × Explains (words_kind error) outcome)
