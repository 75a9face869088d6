-- Why a command could not be carried out, and what is said of it.
use Rattle.std.specs.Prelude.{◌≡◌, ℕ, ◌<◌, List, ◌++◌, length, take, codes, Option, OnOk, IfErr}
use Rattle.std.specs.Io.KnownBytes.{Appends}
use Rattle.mds_table.specs.TimedFile as table
use Rattle.mds_table.specs.declared.tables_fault.TablesFault.{TablesFault}
use Rattle.mds_table.specs.declared.tables_fault.TablesFault.TheVariants as tables_fault
use Rattle.mds_batch.specs.Batch as batch
use Rattle.mds_batch.specs.declared.batch.BatchFault.{BatchFault}
use Rattle.mds_batch.specs.declared.batch.BatchFault.TheVariants as batch_fault
use Rattle.mds_lines.specs.LineFault as lines
use Rattle.mds_lines.specs.declared.line_fault.LineFault.{LineFault}
use Rattle.mds_lines.specs.declared.line_fault.LineFault.TheVariants as line_fault
use Rattle.mds_io.specs.declared.page.PrintError.{PrintError}
use Rattle.mds_io.specs.declared.page.PrintError.TheVariants as write
use Rattle.mds_commands.specs.declared.problem.Telling.{Telling}
use Rattle.mds_commands.specs.declared.problem.Problem.{Problem}
use Rattle.mds_commands.specs.declared.problem.Problem.TheVariants.{CannotRead, NotATable}
use Rattle.mds_commands.specs.declared.problem.Problem.TheVariants.{NotABatch, NotLines, Socket}
use Rattle.mds_commands.specs.declared.problem.Problem.TheVariants.{Random, Output, Memory}
use Rattle.mds_commands.specs.declared.status.Status.{Status}
use Rattle.mds_commands.specs.declared.status.Status.TheVariants.{Fault, NoMemory}
use Rattle.mds_io.specs.Page.{AppendsUpTo, with_newline}

-- what is said of a problem
abbrev pub problem_text : Problem → List ℕ
problem_text (CannotRead path) = codes "mds_city: cannot read " ++ path.now
problem_text (NotATable fault) = codes "mds_city: not a table: " ++ table.tables_fault_text fault
problem_text (NotABatch fault) = codes "mds_city: not a batch: " ++ batch.fault_text fault
problem_text (NotLines fault) = codes "mds_city: not a batch: " ++ lines.line_fault_text fault
problem_text Socket = codes "mds_city: socket"
problem_text Random = codes "mds_city: random"
problem_text Output = codes "mds_city: output"
problem_text Memory = codes "mds_city: out of memory"

-- the problem where the bytes of a table file have this fault
abbrev pub table_problem : TablesFault → Problem
table_problem tables_fault.Memory = Memory
table_problem fault = NotATable fault

-- the problem where the bytes of a file of items have this fault
abbrev pub batch_problem : BatchFault → Problem
batch_problem batch_fault.Memory = Memory
batch_problem fault = NotABatch fault

-- the problem where the lines of a file of items have this fault
abbrev pub line_problem : LineFault → Problem
line_problem line_fault.Memory = Memory
line_problem fault = NotLines fault

-- the problem where a text could not be written
abbrev pub written_problem : PrintError → Problem
written_problem write.Memory = Memory
written_problem write.Device = Output

-- the status that the program ends with
abbrev pub status_of : Problem → Status
status_of (CannotRead path) = Fault
status_of (NotATable fault) = Fault
status_of (NotABatch fault) = Fault
status_of (NotLines fault) = Fault
status_of Socket = Fault
status_of Random = Fault
status_of Output = Fault
status_of Memory = NoMemory

-- the line of a problem went to the writer, or a front of it, since a writer of faults may fail
abbrev pub Tells : Option (List ℕ) → Option (List ℕ) → Problem → Type 0
Tells old new problem = AppendsUpTo old new (with_newline (problem_text problem))

-- the problem has this status, and its line went out whole, or as many of its bytes as are told,
-- fewer than all
abbrev pub IsTelling : Option (List ℕ) → Option (List ℕ) → Problem → Telling → Type 0
IsTelling old new problem telling =
    let line = with_newline (problem_text problem) in
    (telling.status ≡ status_of problem) × OnOk telling.line (Appends old new line)
    × IfErr telling.line (λ stop. (stop.sent < length line) × Appends old new (take stop.sent line))
