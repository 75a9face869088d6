-- What the command that compacts a journal does.
use Rattle.std.specs.Prelude.{◌≡◌, ◌⊎◌, ℕ, List, ◌++◌, codes, Option, Some, None}
use Rattle.std.specs.Io.KnownBytes.{Appends, Keeps}
use Rattle.mds_io.specs.Page.{AppendsFront, AppendsUpTo, with_newline}
use Rattle.mds_commands.specs.Debug.{TellsDebug}
use Rattle.mds_commands.specs.declared.debug.DebugProblem.TheVariants as vehicle
use Rattle.mds_commands.specs.declared.problem.Problem.TheVariants.{CannotRead, Random, Output}
use Rattle.mds_commands.specs.declared.problem.Problem.TheVariants.{Memory}
use Rattle.mds_commands.specs.declared.status.Status.{Status}
use Rattle.mds_commands.specs.declared.status.Status.TheVariants as status
use Rattle.mds_commands.specs.declared.vehicles.problem.JournalProblem.TheVariants.{NotAJournal}
use Rattle.mds_commands.specs.declared.vehicles.problem.JournalProblem.TheVariants.{Other}
use Rattle.mds_commands.specs.JournalProblem.{TellsJournal, journal_status_of}
use Rattle.mds_file.specs.declared.new_file.NewFileFault.TheVariants as file
use Rattle.mds_retention.specs.declared.compacting.Readings.{Readings}
use Rattle.mds_retention.specs.declared.error.CompactError.{CompactError}
use Rattle.mds_retention.specs.declared.error.CompactError.TheVariants.{Old, New, NotThere}
use Rattle.mds_retention.specs.declared.error.LinesError.TheVariants as lines
use Rattle.mds_retention.specs.declared.compacting.Compacted.{Compacted}
use Rattle.mds_retention.specs.Copying.{IsCompactedJournal}
use Rattle.mds_retention.specs.Compacting.{AreReadings, IsCompactFault, IsCompactedTo, IsOfNew}
use Rattle.mds_retention.specs.Compacting.{StandsWhole}
use Rattle.mds_city.specs.declared.compact.CompactAsked.{CompactAsked}
use Rattle.mds_city.specs.declared.compact.CompactProblem.{CompactProblem}
use Rattle.mds_city.specs.declared.compact.CompactProblem.TheVariants.{IsThere, CannotWrite}
use Rattle.mds_city.specs.declared.compact.CompactProblem.TheVariants.{NotInFile, Journal}
use Rattle.mds_city.specs.CompactText.{compacted_text}
use Rattle.mds_city.specs.Host.{HostFiles}
use Rattle.mds_city.specs.Outcome.{Outcome}

-- the status that the program ends with
abbrev pub compact_status_of : CompactProblem → Status
compact_status_of (IsThere path) = status.Fault
compact_status_of (CannotWrite path) = status.Fault
compact_status_of NotInFile = status.Refused
compact_status_of (Journal problem) = journal_status_of problem

-- what is said of the problem went out, or a front of it
abbrev pub TellsCompact : Option (List ℕ) → Option (List ℕ) → CompactProblem → Type 0
TellsCompact old new (IsThere path) =
    AppendsUpTo old new (with_newline (codes "mds_city: " ++ path.now ++ codes " is there"))
TellsCompact old new (CannotWrite path) =
    AppendsUpTo old new (with_newline (codes "mds_city: cannot write " ++ path.now))
TellsCompact old new NotInFile = TellsDebug old new vehicle.NotInFile
TellsCompact old new (Journal problem) = TellsJournal old new problem

-- the problem where a journal isn't compacted for this, with the paths of the old and the new one
abbrev pub IsProblemOf : List ℕ → List ℕ → CompactError → CompactProblem → Type 0
IsProblemOf old new (Old lines.Memory) problem = problem ≡ Journal (Other Memory)
IsProblemOf old new (Old lines.Read) (Journal (Other (CannotRead path))) = path.now ≡ old
IsProblemOf old new (Old lines.Changed) (Journal (Other (CannotRead path))) = path.now ≡ old
IsProblemOf old new (Old (lines.Fault fault)) problem = problem ≡ Journal (NotAJournal fault)
IsProblemOf old new (New file.IsThere) (IsThere path) = path.now ≡ new
IsProblemOf old new (New file.CannotWrite) (CannotWrite path) = path.now ≡ new
IsProblemOf old new (New file.Memory) problem = problem ≡ Journal (Other Memory)
IsProblemOf old new NotThere problem = problem ≡ NotInFile
IsProblemOf old new error problem = ⊥

-- of a host, and what is asked for
module _ {F N : Type 0} (host : HostFiles F N) (asked : CompactAsked) where
  -- each reading is of the old journal
  pub record AreOpened (readings : Readings F) : Type 0 where
    pub first : host.opener.opens asked.old.now (Some readings.first)
    pub second : host.opener.opens asked.old.now (Some readings.second)
    pub third : host.opener.opens asked.old.now (Some readings.third)
    pub fourth : host.opener.opens asked.old.now (Some readings.fourth)

  -- under the name stands the compaction of what was read, which came to this
  abbrev pub StandsCompacted : Readings F → N → Compacted → Type 0
  StandsCompacted readings name compacted =
      (first : List ℕ) → AreReadings host.opener.bytes first readings → host.maker.is_true name
      → (found : Option (List ℕ)) → host.maker.may_stand name found
      → StandsWhole (IsCompactedTo asked.before asked.cuts.now first compacted) found

  -- nothing that had the name lost it; and if something has it from the start, this holds
  abbrev pub Spares : N → N → Type 0 → Type 0
  Spares was name Taken =
      host.maker.keeps name → (host.maker.is_over name → host.maker.is_over was)
      × (host.maker.is_taken was → Taken)

  -- under a new name, which nothing had, stands the compaction of the old journal, which came to this
  abbrev pub Compacts : Compacted → Type 0
  Compacts compacted =
      (readings : Readings F) × AreOpened readings × (was name : N)
      × host.maker.names asked.new.now was × StandsCompacted readings name compacted
      × Spares was name ⊥

  -- whatever crash comes, what stood under the name stands there, or all of a compaction
  abbrev pub LeavesWhole : Readings F → N → N → Type 0
  LeavesWhole readings was name =
      (first : List ℕ) → AreReadings host.opener.bytes first readings → host.maker.is_true name
      → (found : Option (List ℕ)) → host.maker.may_stand name found
      → host.maker.may_stand was found
      ⊎ StandsWhole (IsCompactedJournal asked.before asked.cuts.now first) found

  -- the readings have this fault, or there is no new file, as where its name is taken; and what
  -- stands under that
  abbrev pub Fails : CompactError → Type 0
  Fails error =
      (readings : Readings F) × AreOpened readings
      × IsCompactFault host.opener.bytes readings asked.cuts.now error
      × (was name : N) × host.maker.names asked.new.now was × LeavesWhole readings was name
      × Spares was name (IsOfNew error)

  -- why the journal wasn't compacted
  abbrev pub ExplainsCompact : CompactProblem → Type 0
  ExplainsCompact problem =
      ((problem ≡ Journal (Other Random)) ⊎ (problem ≡ Journal (Other Memory)))
      ⊎ (IsProblemOf asked.old.now asked.new.now (Old lines.Read) problem
      × host.opener.opens asked.old.now None)
      ⊎ ((error : CompactError) × Fails error
      × IsProblemOf asked.old.now asked.new.now error problem)

  -- what the command came to: what came of the compaction went out; or a front of it, where the
  -- output failed or there was no memory; or nothing, and why was told
  abbrev pub CameToCompact : Outcome → Type 0
  CameToCompact outcome =
      ((compacted : Compacted) × Compacts compacted × (outcome.ended ≡ status.Done)
      × Appends outcome.out.before outcome.out.after (compacted_text compacted)
      × Keeps outcome.faults.before outcome.faults.after)
      ⊎ ((compacted : Compacted) × Compacts compacted
      × AppendsFront outcome.out.before outcome.out.after (compacted_text compacted)
      × ((problem : CompactProblem)
      × ((problem ≡ Journal (Other Output)) ⊎ (problem ≡ Journal (Other Memory)))
      × (outcome.ended ≡ compact_status_of problem)
      × TellsCompact outcome.faults.before outcome.faults.after problem))
      ⊎ ((problem : CompactProblem) × ExplainsCompact problem
      × Keeps outcome.out.before outcome.out.after
      × (outcome.ended ≡ compact_status_of problem)
      × TellsCompact outcome.faults.before outcome.faults.after problem)
