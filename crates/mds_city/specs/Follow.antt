-- What the command does that compacts a journal beside a server.
use Rattle.std.specs.Prelude.{◌≡◌, ◌⊎◌, ℕ, List, codes, Option, Some, None}
use Rattle.std.specs.Io.KnownBytes.{Appends, Keeps}
use Rattle.mds_io.specs.Page.{AppendsFront, with_newline}
use Rattle.mds_commands.specs.declared.problem.Problem.TheVariants.{Random, Output, Memory}
use Rattle.mds_commands.specs.declared.status.Status.TheVariants as status
use Rattle.mds_commands.specs.declared.vehicles.problem.JournalProblem.TheVariants.{Other}
use Rattle.mds_retention.specs.declared.error.CompactError.{CompactError}
use Rattle.mds_retention.specs.declared.error.CompactError.TheVariants.{Old}
use Rattle.mds_retention.specs.declared.error.LinesError.TheVariants as lines
use Rattle.mds_retention.specs.declared.passes.Totals.{Totals}
use Rattle.mds_retention.specs.Compacting.{AreReadings, IsOfNew, StandsWhole}
use Rattle.mds_retention.specs.NewJournal.{HasSince, IsBeginFault, IsFollowed, IsFollowedTo}
use Rattle.mds_city.specs.declared.compact.CompactProblem.{CompactProblem}
use Rattle.mds_city.specs.declared.compact.CompactProblem.TheVariants.{Journal}
use Rattle.mds_city.specs.declared.follow.FollowAsked.{FollowAsked}
use Rattle.mds_city.specs.declared.follow.Opened.{Opened}
use Rattle.mds_city.specs.Compact.{IsProblemOf, TellsCompact, compact_status_of}
use Rattle.mds_city.specs.CompactText.{compact_line}
use Rattle.mds_city.specs.Host.{HostFiles}
use Rattle.mds_city.specs.Outcome.{Outcome}

-- what a host gives that opens journals of servers
pub record FollowHost (G : Type 0) : Type 1 where
  -- the relation of a path to what comes of opening the journal there
  pub follows : List ℕ → Option G → Type 0
  -- the known bytes that a journal had at the last look
  pub content : G → Option (List ℕ)
  -- no other process had it then
  pub is_all : G → Type 0

-- the line that says that the new journal has what stays of the old one
abbrev pub following_line : List ℕ
following_line = codes "following"

-- why a problem was told
abbrev pub TellsOf : (CompactProblem → Type 0) → Outcome → Type 0
TellsOf Explains outcome =
    (problem : CompactProblem) × Explains problem × (outcome.ended ≡ compact_status_of problem)
    × TellsCompact outcome.faults.before outcome.faults.after problem

-- the output failed, or there was no memory
abbrev pub IsNotPrinted : CompactProblem → Type 0
IsNotPrinted problem = (problem ≡ Journal (Other Output)) ⊎ (problem ≡ Journal (Other Memory))

-- what is known of what was opened
pub record Known (F N G : Type 0) : Type 1 where
  -- the bytes of a reader
  pub bytes : F → Option (List ℕ)
  -- those that a journal had at the last look
  pub content : G → Option (List ℕ)
  -- what may stand under a name where a crash comes
  pub may_stand : N → Option (List ℕ) → Type 0
  -- all answers of the file that was given the name were those of a disk that keeps what it is given
  pub is_true : N → Type 0
  -- no other process had a journal at the last look
  pub is_all : G → Type 0
  -- all answers of a name were those of a system that keeps what has it
  pub keeps : N → Type 0
  -- something has the name
  pub is_taken : N → Type 0
  -- it was given to a file in place of what had it
  pub is_over : N → Type 0

-- of that, and what is asked for
module _ {F N G : Type 0} (known : Known F N G) (asked : FollowAsked) where
  -- it's known what the readings gave, and what the journal had when it was opened
  abbrev pub AreKnown : Opened F G N → List ℕ → Type 0
  AreKnown opened first =
      AreReadings known.bytes first opened.readings
      × HasSince first (known.content opened.followed)

  -- nothing that had the name lost it; and if something has it from the start, this holds
  abbrev pub SparesName : N → N → Type 0 → Type 0
  SparesName was name Taken =
      known.keeps name → (known.is_over name → known.is_over was)
      × (known.is_taken was → Taken)

  -- under a new name, which nothing had, stands what stays of the old journal and all that came
  -- since, up to the last look, when no other process had it, with these totals
  abbrev pub Follows : Opened F G N → Totals → Type 0
  Follows opened totals =
      (after : G) × (name : N)
      × ((first : List ℕ) → AreKnown opened first → known.is_true name
      → (found : Option (List ℕ)) → known.may_stand name found
      → (last : List ℕ) × (known.content after ≡ Some last)
      × StandsWhole (IsFollowedTo asked.before first last totals) found)
      × known.is_all after × SparesName opened.name name ⊥

  -- whatever crash comes, what stood under the name stands there, or all of the new journal
  abbrev pub LeavesFollowed : Opened F G N → G → N → Type 0
  LeavesFollowed opened after name =
      (first : List ℕ) → AreKnown opened first → known.is_true name
      → (found : Option (List ℕ)) → known.may_stand name found
      → known.may_stand opened.name found
      ⊎ ((last : List ℕ) × (known.content after ≡ Some last)
      × StandsWhole (IsFollowed asked.before first last) found)

  -- the journal has this fault, or there is no new file, as where its name is taken; and what stands
  -- under that
  abbrev pub FailsToFollow : Opened F G N → CompactError → Type 0
  FailsToFollow opened error =
      (after : G) × (name : N)
      × IsBeginFault known.bytes opened.readings (known.content opened.followed)
      (known.content after) error
      × LeavesFollowed opened after name × SparesName opened.name name (IsOfNew error)

  -- why there is no new journal
  abbrev pub ExplainsFollow : Opened F G N → CompactProblem → Type 0
  ExplainsFollow opened problem =
      (problem ≡ Journal (Other Memory))
      ⊎ ((error : CompactError) × FailsToFollow opened error
      × IsProblemOf asked.old.now asked.new.now error problem)

  -- what came behind the first line: the totals went out; or a front of them, where that failed; or
  -- nothing, and why was told
  abbrev pub CameToEnd : Opened F G N → Option (List ℕ) → Outcome → Type 0
  CameToEnd opened middle outcome =
      ((totals : Totals) × Follows opened totals × (outcome.ended ≡ status.Done)
      × Appends middle outcome.out.after (with_newline (compact_line totals))
      × Keeps outcome.faults.before outcome.faults.after)
      ⊎ ((totals : Totals) × Follows opened totals
      × AppendsFront middle outcome.out.after (with_newline (compact_line totals))
      × TellsOf IsNotPrinted outcome)
      ⊎ (Keeps middle outcome.out.after × TellsOf (ExplainsFollow opened) outcome)

  -- what came of what was opened: nothing went out, and why was told; or a front of the first line,
  -- where that failed; or that line, and what came behind it
  abbrev pub CameFrom : Opened F G N → Outcome → Type 0
  CameFrom opened outcome =
      (Keeps outcome.out.before outcome.out.after × TellsOf (ExplainsFollow opened) outcome)
      ⊎ (AppendsFront outcome.out.before outcome.out.after (with_newline following_line)
      × TellsOf IsNotPrinted outcome)
      ⊎ ((middle : Option (List ℕ))
      × Appends outcome.out.before middle (with_newline following_line)
      × CameToEnd opened middle outcome)

-- of a host, and what is asked for
module _ {F N G : Type 0} (host : HostFiles F N) (journals : FollowHost G) (asked : FollowAsked)
  where
    -- each of these is of the old journal, or the name of the new one
    pub record IsOpened (opened : Opened F G N) : Type 0 where
      pub first : host.opener.opens asked.old.now (Some opened.readings.first)
      pub second : host.opener.opens asked.old.now (Some opened.readings.second)
      pub third : host.opener.opens asked.old.now (Some opened.readings.third)
      pub fourth : host.opener.opens asked.old.now (Some opened.readings.fourth)
      pub behind : journals.follows asked.old.now (Some opened.followed)
      pub new : host.maker.names asked.new.now opened.name

    -- why they can't be opened, or there is no hasher
    abbrev pub IsNotOpened : CompactProblem → Type 0
    IsNotOpened problem =
        ((problem ≡ Journal (Other Random)) ⊎ (problem ≡ Journal (Other Memory)))
        ⊎ (IsProblemOf asked.old.now asked.new.now (Old lines.Read) problem
        × (host.opener.opens asked.old.now None ⊎ journals.follows asked.old.now None))

    -- what the command came to
    abbrev pub CameToFollow : Outcome → Type 0
    CameToFollow outcome =
        ((opened : Opened F G N) × IsOpened opened
        × CameFrom (record {
          bytes = host.opener.bytes;
          content = journals.content;
          may_stand = host.maker.may_stand;
          is_true = host.maker.is_true;
          is_all = journals.is_all;
          keeps = host.maker.keeps;
          is_taken = host.maker.is_taken;
          is_over = host.maker.is_over;
        }) asked opened outcome)
        ⊎ (Keeps outcome.out.before outcome.out.after × TellsOf IsNotOpened outcome)
