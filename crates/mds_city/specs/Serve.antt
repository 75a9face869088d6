-- What the command that serves does.
use Rattle.std.specs.Prelude.{◌≡◌, ◌⊎◌, ℕ, ◌+◌, List, ◌++◌, length}
use Rattle.std.specs.Prelude.{codes, decimal, Option, Result, Ok, Err}
use Rattle.std.specs.Io.KnownBytes.{Appends, Keeps}
use Rattle.mds_table.specs.Tables.{Tables}
use Rattle.mds_io.specs.Page.{AppendsFront, with_newline}
use Rattle.mds_pool.specs.Serving.{AtEnd, IsEnded}
use Rattle.mds_pool.specs.declared.serving.Stop.{Stop}
use Rattle.mds_pool.specs.declared.serving.Stop.TheVariants as stop
use Rattle.mds_commands.specs.declared.problem.Problem.{Problem}
use Rattle.mds_commands.specs.declared.problem.Problem.TheVariants.{CannotRead, NotATable}
use Rattle.mds_commands.specs.declared.problem.Problem.TheVariants.{NotABatch, NotLines, Socket}
use Rattle.mds_commands.specs.declared.problem.Problem.TheVariants.{Random, Output, Memory}
use Rattle.mds_commands.specs.declared.status.Status.{Status}
use Rattle.mds_commands.specs.declared.status.Status.TheVariants as status
use Rattle.mds_commands.specs.Problem.{status_of, Tells}
use Rattle.mds_commands.specs.Source.{HasTablesIn, ExplainsTable}
use Rattle.mds_city.specs.declared.serve.ServeOptions.{ServeOptions}
use Rattle.mds_city.specs.Host.{TableFile}
use Rattle.mds_commands.specs.Change.{Change}
use Rattle.mds_city.specs.Outcome.{Outcome}

-- the line that says where a server listens
abbrev pub listening_line : ℕ → List ℕ
listening_line port = codes "listening 127.0.0.1:" ++ decimal port

-- the line that says how many requests a server accepted
abbrev pub accepted_line : ℕ → List ℕ
accepted_line accepted = codes "accepted " ++ decimal accepted

-- a problem has this status, and was told
abbrev pub IsTold : Problem → Status → Change → Type 0
IsTold problem ended faults =
    (ended ≡ status_of problem) × Tells faults.before faults.after problem

-- the number of accepted requests was printed; or a front of that line, where the output failed or
-- there was no memory
abbrev pub SaysAccepted : ℕ → Outcome → Type 0
SaysAccepted accepted outcome =
    ((outcome.ended ≡ status.Done)
    × Appends outcome.out.before outcome.out.after (with_newline (accepted_line accepted))
    × Keeps outcome.faults.before outcome.faults.after)
    ⊎ (AppendsFront outcome.out.before outcome.out.after (with_newline (accepted_line accepted))
    × (IsTold Output outcome.ended outcome.faults ⊎ IsTold Memory outcome.ended outcome.faults))

-- what was printed and told of how serving ended: how many requests the settled book accepted, in
-- both shards; else nothing, and why
abbrev pub IsSaid : Result AtEnd Stop → Outcome → Type 0
IsSaid (Ok book) outcome =
    SaysAccepted (length book.all.first + length book.all.second) outcome
IsSaid (Err stop.Memory) outcome =
    Keeps outcome.out.before outcome.out.after × IsTold Memory outcome.ended outcome.faults
IsSaid (Err stop.Accept) outcome =
    Keeps outcome.out.before outcome.out.after
    × (IsTold Socket outcome.ended outcome.faults ⊎ IsTold Memory outcome.ended outcome.faults)

-- serving with these tables, and so many workers that were to answer so many connections each,
-- ended in some way, and that was said
abbrev pub Serves : Tables → ℕ → ℕ → Outcome → Type 0
Serves tables workers each outcome =
    (came : Result AtEnd Stop) × IsEnded tables workers each came × IsSaid came outcome

-- it listens at the port of this number, as was asked: this relates what listens to its port's
-- number
abbrev pub IsPort : {L : Type 0} → (L → ℕ → Type 0) → ℕ → Type 0
IsPort {L} listens port = (listening : L) × listens listening port

-- of the command: the relation of what listens, as was asked, to its port's number; and the table
-- file
module _ {L T : Type 0} (listens : L → ℕ → Type 0) (table : TableFile T) where
  -- the tables were had, and a front of the line that says where the server listens went out
  abbrev pub PrintsListening : Change → Type 0
  PrintsListening out =
      (tables : Tables) × HasTablesIn table.bytes table.file tables
      × ((port : ℕ) × IsPort listens port
      × AppendsFront out.before out.after (with_newline (listening_line port)))

  -- why nothing was served: a fault of the table file, no random numbers, no port, or a line that
  -- could not be printed; and what went out
  abbrev pub StopsBefore : Problem → Change → Type 0
  StopsBefore (CannotRead path) out =
      ExplainsTable table.bytes table.file (CannotRead path) × Keeps out.before out.after
  StopsBefore (NotATable fault) out =
      ExplainsTable table.bytes table.file (NotATable fault) × Keeps out.before out.after
  StopsBefore (NotABatch fault) out = ⊥
  StopsBefore (NotLines fault) out = ⊥
  StopsBefore Socket out =
      (tables : Tables)
      × HasTablesIn table.bytes table.file tables × Keeps out.before out.after
  StopsBefore Random out =
      (tables : Tables)
      × HasTablesIn table.bytes table.file tables × Keeps out.before out.after
  StopsBefore Output out = PrintsListening out
  StopsBefore Memory out = Keeps out.before out.after ⊎ PrintsListening out

  -- the tables were had, and the line went out that says where this listens
  abbrev pub Listened : Tables → L → Change → Type 0
  Listened tables listening out =
      HasTablesIn table.bytes table.file tables
      × ((port : ℕ) × listens listening port
      × Appends out.before out.after (with_newline (listening_line port)))

-- of the command: the relation of a number asked for to what listens and its port's number; and the
-- table file
module _ {L T : Type 0} (listens : ℕ → L → ℕ → Type 0) (table : TableFile T) where
  -- what the command came to, as serving was asked for: nothing was served, for a problem that was
  -- told; or it was served, after the first line
  abbrev pub CameToServe : ServeOptions → Outcome → Type 0
  CameToServe asked outcome =
      ((problem : Problem) × StopsBefore (listens asked.port) table problem outcome.out
      × IsTold problem outcome.ended outcome.faults)
      ⊎ ((tables : Tables) × (listening : L) × (out_then : Option (List ℕ))
      × Listened (listens asked.port) table tables listening
      (record outcome.out { after = out_then })
      × Serves tables asked.workers asked.each
      (record outcome { out = record outcome.out { before = out_then } }))
