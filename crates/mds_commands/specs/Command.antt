-- What the commands do.
use Rattle.std.specs.Prelude.{◌≡◌, ◌⊎◌, ◌==◌, ℕ, List, Option, if◌then◌else◌}
use Rattle.std.specs.Io.KnownBytes.{Appends, Keeps}
use Rattle.mds_table.specs.Tables.{Tables}
use Rattle.mds_batch.specs.declared.item.EventItem.{EventItem}
use Rattle.mds_trace.specs.declared.report.Report.{Report}
use Rattle.mds_commands.specs.declared.source.Source.{Source}
use Rattle.mds_commands.specs.declared.problem.Problem.{Problem}
use Rattle.mds_commands.specs.declared.problem.Problem.TheVariants.{CannotRead, NotATable}
use Rattle.mds_commands.specs.declared.problem.Problem.TheVariants.{NotABatch, NotLines, Socket}
use Rattle.mds_commands.specs.declared.problem.Problem.TheVariants.{Random, Output, Memory}
use Rattle.mds_commands.specs.declared.status.Status.{Status}
use Rattle.mds_commands.specs.declared.status.Status.TheVariants.{Done, Refused}
use Rattle.mds_io.specs.Page.{AppendsFront}
use Rattle.mds_commands.specs.Problem.{status_of, Tells}
use Rattle.mds_commands.specs.declared.commands.ReplayOptions.{ReplayOptions}
use Rattle.mds_trace.specs.declared.report.Opening.TheVariants as opening
use Rattle.mds_trace.specs.Replay.{IsReport}
use Rattle.mds_trace.specs.ReplayLaws.{AreOutcomes}
use Rattle.mds_commands.specs.Source.{HasTablesIn, ExplainsTable, HasItemsIn, ExplainsFile}
use Rattle.mds_commands.specs.Files.{Files}
use Rattle.mds_commands.specs.Change.{Change}
use Rattle.mds_commands.specs.Text.{report_text, table_text}

-- the status of a replay by how many items it refused
abbrev pub status_on : ℕ → Status
status_on refused = if refused == 0 then Done else Refused

-- of a replay: what is asked for, and the files, of which one is of events
module _ {T R : Type 0} (options : ReplayOptions) (files : Files T R) where
  -- the report of a replay of the file's items over the tables; with registrations before, its
  -- verdicts are the outcomes of the machine's run
  abbrev pub HasReport : Report → Type 0
  HasReport report =
      (tables : Tables) × (items : List EventItem)
      × HasTablesIn files.table_bytes files.table tables
      × HasItemsIn options.form files.file_bytes files.file items
      × IsReport options.opening tables items report
      × (options.opening ≡ opening.Removed → AreOutcomes tables items report.lines.items)

  -- the report's text went out; the status tells whether each item was accepted
  abbrev pub Replayed : Status → Option (List ℕ) → Option (List ℕ) → Type 0
  Replayed status old new =
      (report : Report) × HasReport report × Appends old new (report_text options.opening report)
      × (status ≡ status_on report.refused)

  -- the tables were had, and then the problem is one of the file of events
  abbrev pub ExplainsEvents : Problem → Type 0
  ExplainsEvents problem =
      (tables : Tables) × HasTablesIn files.table_bytes files.table tables
      × ExplainsFile options.form files.file_bytes files.file problem

  -- the problem's cause lies in the file that it names, if it names one; the table file is looked
  -- at first
  abbrev pub ExplainsReplay : Problem → Type 0
  ExplainsReplay (CannotRead path) =
      ExplainsTable files.table_bytes files.table (CannotRead path)
      ⊎ ExplainsEvents (CannotRead path)
  ExplainsReplay (NotATable fault) = ExplainsTable files.table_bytes files.table (NotATable fault)
  ExplainsReplay (NotABatch fault) = ExplainsEvents (NotABatch fault)
  ExplainsReplay (NotLines fault) = ExplainsEvents (NotLines fault)
  ExplainsReplay Socket = ⊥
  ExplainsReplay Random = ⊥
  ExplainsReplay Output = Unit {0}
  ExplainsReplay Memory = Unit {0}

  -- a front of the report's text went out, and not all of it
  abbrev pub PrintsFront : Option (List ℕ) → Option (List ℕ) → Type 0
  PrintsFront old new =
      (report : Report)
      × HasReport report × AppendsFront old new (report_text options.opening report)

  -- what went out before a problem: nothing where a file was at fault, a front of the report where
  -- the output was
  abbrev pub WentOut : Problem → Option (List ℕ) → Option (List ℕ) → Type 0
  WentOut (CannotRead path) old new = Keeps old new
  WentOut (NotATable fault) old new = Keeps old new
  WentOut (NotABatch fault) old new = Keeps old new
  WentOut (NotLines fault) old new = Keeps old new
  WentOut Socket old new = ⊥
  WentOut Random old new = ⊥
  WentOut Output old new = PrintsFront old new
  WentOut Memory old new = Keeps old new ⊎ PrintsFront old new

  -- a problem has this status, is explained, and was told
  abbrev pub Told : Status → Change → Change → Type 0
  Told status out faults =
      (problem : Problem) × (status ≡ status_of problem) × ExplainsReplay problem
      × WentOut problem out.before out.after × Tells faults.before faults.after problem

  -- what a replay came to: its report was printed and nothing was told, or a problem was told
  abbrev pub CameToReplay : Status → Change → Change → Type 0
  CameToReplay status out faults =
      (Replayed status out.before out.after × Keeps faults.before faults.after)
      ⊎ Told status out faults

-- of a print of tables: the known bytes of its file's reader, and the file if one is given
module _ {T : Type 0} (table_bytes : T → Option (List ℕ)) (table : Option (Source T)) where
  -- the tables' text went out
  abbrev pub Tabled : Option (List ℕ) → Option (List ℕ) → Type 0
  Tabled old new =
      (tables : Tables) × HasTablesIn table_bytes table tables × Appends old new (table_text tables)

  -- the problem's cause lies in the file, if it is a fault of a file
  abbrev pub ExplainsPrint : Problem → Type 0
  ExplainsPrint (CannotRead path) = ExplainsTable table_bytes table (CannotRead path)
  ExplainsPrint (NotATable fault) = ExplainsTable table_bytes table (NotATable fault)
  ExplainsPrint (NotABatch fault) = ⊥
  ExplainsPrint (NotLines fault) = ⊥
  ExplainsPrint Socket = ⊥
  ExplainsPrint Random = ⊥
  ExplainsPrint Output = Unit {0}
  ExplainsPrint Memory = Unit {0}

  -- what went out before a problem: nothing where the file was at fault, else a front of the
  -- tables' text
  abbrev pub TableWentOut : Problem → Option (List ℕ) → Option (List ℕ) → Type 0
  TableWentOut (CannotRead path) old new = Keeps old new
  TableWentOut (NotATable fault) old new = Keeps old new
  TableWentOut (NotABatch fault) old new = Keeps old new
  TableWentOut (NotLines fault) old new = Keeps old new
  TableWentOut Socket old new = ⊥
  TableWentOut Random old new = ⊥
  TableWentOut Output old new =
      (tables : Tables)
      × HasTablesIn table_bytes table tables × AppendsFront old new (table_text tables)
  TableWentOut Memory old new =
      Keeps old new
      ⊎ ((tables : Tables)
      × HasTablesIn table_bytes table tables × AppendsFront old new (table_text tables))

  -- a problem has this status, is explained, and was told
  abbrev pub TableTold : Status → Change → Change → Type 0
  TableTold status out faults =
      (problem : Problem) × (status ≡ status_of problem) × ExplainsPrint problem
      × TableWentOut problem out.before out.after × Tells faults.before faults.after problem

  -- what a print of tables came to: they were printed and nothing was told, or a problem was told
  abbrev pub CameToTable : Status → Change → Change → Type 0
  CameToTable status out faults =
      ((status ≡ Done) × Tabled out.before out.after × Keeps faults.before faults.after)
      ⊎ TableTold status out faults
