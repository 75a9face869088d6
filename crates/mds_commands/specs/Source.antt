-- What the files that a command reads have, and why they can't be used.
use Rattle.std.specs.Prelude.{◌≡◌, ◌≢◌, ℕ, ◌+◌, List, [], ◌∷◌, Option, Some, None}
use Rattle.mds_table.specs.Tables.{Tables}
use Rattle.mds_table.specs.Json.{max_bytes}
use Rattle.mds_table.specs.Profile.{profile_rows}
use Rattle.mds_table.specs.TimedFile.{HasTables, HasTablesFault}
use Rattle.mds_table.specs.declared.tables_fault.TablesFault.{TablesFault}
use Rattle.mds_table.specs.declared.tables_fault.TablesFault.TheVariants as tables
use Rattle.mds_batch.specs.declared.batch.BatchFault.{BatchFault}
use Rattle.mds_batch.specs.declared.batch.BatchFault.TheVariants as batch
use Rattle.mds_batch.specs.declared.item.EventItem.{EventItem}
use Rattle.mds_batch.specs.Items.{IsEventItem}
use Rattle.mds_batch.specs.Batch.{HasItems, HasFault as HasBatchFault}
use Rattle.mds_lines.specs.declared.line_fault.LineFault.{LineFault}
use Rattle.mds_lines.specs.declared.line_fault.LineFault.TheVariants as line
use Rattle.mds_lines.specs.Stream.{HasLineItems, HasLineFault}
use Rattle.mds_commands.specs.declared.source.Form.{Form}
use Rattle.mds_commands.specs.declared.source.Form.TheVariants.{Batch, Lines}
use Rattle.mds_commands.specs.declared.source.Source.{Source}
use Rattle.mds_commands.specs.declared.problem.Problem.{Problem}
use Rattle.mds_commands.specs.declared.problem.Problem.TheVariants.{CannotRead, NotATable}
use Rattle.mds_commands.specs.declared.problem.Problem.TheVariants.{NotABatch, NotLines, Socket}
use Rattle.mds_commands.specs.declared.problem.Problem.TheVariants.{Random, Output, Memory}
use Rattle.mds_io.specs.Read.{HasFront}
use Rattle.mds_commands.specs.Problem.{table_problem, batch_problem, line_problem}

-- how many bytes of a file are read at most: one more than are taken, so that a longer file is seen
-- to be too long
abbrev pub max_read : ℕ
max_read = max_bytes + 1

-- the file was opened, and its reader had left these bytes, or these are the first `max_read` of
-- them; where it isn't known what the reader had left, this says only that it was opened
abbrev pub HasBytes : {R : Type 0} → (R → Option (List ℕ)) → Source R → List ℕ → Type 0
HasBytes {R} remaining source bytes =
    (reader : R) × (source.reader ≡ Some reader) × HasFront max_read (remaining reader) bytes

-- the file was opened
abbrev pub IsOpen : {R : Type 0} → Source R → Type 0
IsOpen {R} source = (reader : R) × (source.reader ≡ Some reader)

-- the path told is the file's, or there was no memory for what a file that was opened has
abbrev pub IsReadProblem : {R : Type 0} → Source R → Problem → Type 0
IsReadProblem source (CannotRead path) = path.now ≡ source.path.now
IsReadProblem source Memory = IsOpen source
IsReadProblem source (NotATable fault) = ⊥
IsReadProblem source (NotABatch fault) = ⊥
IsReadProblem source (NotLines fault) = ⊥
IsReadProblem source Socket = ⊥
IsReadProblem source Random = ⊥
IsReadProblem source Output = ⊥

-- the problem is what is wrong with the bytes of a table file
abbrev pub IsTableProblem : List ℕ → Problem → Type 0
IsTableProblem bytes problem =
    (fault : TablesFault) × HasTablesFault bytes fault × (problem ≡ table_problem fault)

-- the problem is what is wrong with the bytes of a file of events
abbrev pub IsBatchProblem : List ℕ → Problem → Type 0
IsBatchProblem bytes problem =
    (fault : BatchFault) × HasBatchFault bytes fault × (problem ≡ batch_problem fault)

-- the problem is what is wrong with the lines of a file of events
abbrev pub IsLineProblem : List ℕ → Problem → Type 0
IsLineProblem bytes problem =
    (fault : LineFault) × HasLineFault bytes fault × (problem ≡ line_problem fault)

-- the tables are those of the table file
abbrev pub HasTablesOf : {R : Type 0} → (R → Option (List ℕ)) → Source R → Tables → Type 0
HasTablesOf remaining source tables =
    (bytes : List ℕ) × HasBytes remaining source bytes × HasTables bytes tables

-- why a table file has no tables: it has this fault, its path is told as one that can't be read, or
-- it was opened and there was no memory
abbrev pub ExplainsTableFile : {R : Type 0} → (R → Option (List ℕ)) → Source R → Problem → Type 0
ExplainsTableFile remaining source (NotATable fault) =
    (fault ≢ tables.Memory) × (bytes : List ℕ)
    × HasBytes remaining source bytes × HasTablesFault bytes fault
ExplainsTableFile remaining source (CannotRead path) = path.now ≡ source.path.now
ExplainsTableFile remaining source Memory = IsOpen source
ExplainsTableFile remaining source (NotABatch fault) = ⊥
ExplainsTableFile remaining source (NotLines fault) = ⊥
ExplainsTableFile remaining source Socket = ⊥
ExplainsTableFile remaining source Random = ⊥
ExplainsTableFile remaining source Output = ⊥

-- the tables are those of the table file, or where none is given the profile's alone, from 0
abbrev pub HasTablesIn : {R : Type 0} → (R → Option (List ℕ)) → Option (Source R) → Tables → Type 0
HasTablesIn remaining None tables = tables ≡ (0, profile_rows) ∷ []
HasTablesIn remaining (Some source) tables = HasTablesOf remaining source tables

-- why there are no tables: where no file is given, only for want of memory
abbrev pub ExplainsTable : {R : Type 0} → (R → Option (List ℕ))
    → Option (Source R) → Problem → Type 0
ExplainsTable remaining None problem = problem ≡ Memory
ExplainsTable remaining (Some source) problem = ExplainsTableFile remaining source problem

-- the items of bytes in this form: those that a batch lists, or those of their lines
abbrev pub AreItemsIn : Form → List ℕ → List EventItem → Type 0
AreItemsIn Batch bytes items = HasItems IsEventItem bytes items
AreItemsIn Lines bytes items = HasLineItems bytes items

-- the items are those of the file, which is in this form
abbrev pub HasItemsIn : {R : Type 0} → Form
    → (R → Option (List ℕ)) → Source R → List EventItem → Type 0
HasItemsIn form remaining source items =
    (bytes : List ℕ) × HasBytes remaining source bytes × AreItemsIn form bytes items

-- why there are no items: the file has this fault of its form, its path is told as one that can't
-- be read, or it was opened and there was no memory
abbrev pub ExplainsFile : {R : Type 0} → Form → (R → Option (List ℕ)) → Source R → Problem → Type 0
ExplainsFile form remaining source (NotABatch fault) =
    (form ≡ Batch) × (fault ≢ batch.Memory) × (bytes : List ℕ)
    × HasBytes remaining source bytes × HasBatchFault bytes fault
ExplainsFile form remaining source (NotLines fault) =
    (form ≡ Lines) × (fault ≢ line.Memory) × (bytes : List ℕ)
    × HasBytes remaining source bytes × HasLineFault bytes fault
ExplainsFile form remaining source (CannotRead path) = path.now ≡ source.path.now
ExplainsFile form remaining source Memory = IsOpen source
ExplainsFile form remaining source (NotATable fault) = ⊥
ExplainsFile form remaining source Socket = ⊥
ExplainsFile form remaining source Random = ⊥
ExplainsFile form remaining source Output = ⊥
