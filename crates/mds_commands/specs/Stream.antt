-- Files whose lines are replayed as they are read.
use Rattle.std.specs.Prelude.{◌≡◌, ℕ, List, Option, Some, None}
use Rattle.mds_table.specs.Tables.{Tables}
use Rattle.mds_lines.specs.declared.line_fault.LineFault.{LineFault}
use Rattle.mds_lines.specs.Fed.{Fed}
use Rattle.mds_lines.specs.Stream.{IsFaultyWith}
use Rattle.mds_trace.specs.declared.report.Opening.{Opening}
use Rattle.mds_trace.specs.declared.report.Report.{Report}
use Rattle.mds_trace.specs.LineReport.{IsLineReport}
use Rattle.mds_io.specs.Read.{HasFront}
use Rattle.mds_commands.specs.declared.source.Source.{Source}
use Rattle.mds_commands.specs.Source.{HasBytes, max_read}

-- where these bytes were fed, all of them are kept, or a fault that every stream has that begins
-- with them
abbrev pub IsFedAs : List ℕ → List ℕ → Option LineFault → Type 0
IsFedAs bytes kept None = kept ≡ bytes
IsFedAs bytes kept (Some fault) = IsFaultyWith bytes fault

-- this is what is kept where these bytes were fed
abbrev pub IsFed : List ℕ → Fed → Type 0
IsFed bytes stream = IsFedAs bytes stream.bytes stream.fault

-- what a reader had left was fed, or the first `max_read` bytes of it
abbrev pub IsFedFile : Option (List ℕ) → Fed → Type 0
IsFedFile known stream = (bytes : List ℕ) × HasFront max_read known bytes × IsFed bytes stream

-- the report of a replay of the items of the file's lines
abbrev pub HasLineReport : {R : Type 0} → Opening → Tables
    → (R → Option (List ℕ)) → Source R → Report → Type 0
HasLineReport opening tables remaining source report =
    (bytes : List ℕ) × HasBytes remaining source bytes × IsLineReport opening tables bytes report
