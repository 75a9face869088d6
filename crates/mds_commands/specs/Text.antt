-- The lines that the program prints of a replay and of tables.
use Rattle.std.specs.Prelude.{ℕ, ◌+◌, ◌==◌, List, [], ◌∷◌, ◌++◌, length}
use Rattle.std.specs.Prelude.{if◌then◌else◌, codes, decimal, Option, Some, None}
use Rattle.std.specs.List.{flat_map}
use Rattle.uuid.specs.Text.{hyphenated_text, lower}
use Rattle.mds_table.specs.declared.row.Row.{Row}
use Rattle.mds_table.specs.State.{name_of}
use Rattle.mds_table.specs.Tables.{Entry, start_of, rows_of, Tables}
use Rattle.mds_table.specs.declared.state.State.{State}
use Rattle.mds_steps.specs.StateSet.{names_of}
use Rattle.mds_core.specs.declared.reply.Standing.{Standing}
use Rattle.mds_trace.specs.declared.report.Opening.{Opening}
use Rattle.mds_trace.specs.declared.report.Opening.TheVariants.{Removed, Any}
use Rattle.mds_trace.specs.declared.report.Verdict.{Verdict}
use Rattle.mds_trace.specs.declared.report.VehicleEnd.{VehicleEnd}
use Rattle.mds_trace.specs.declared.report.Report.{Report}
use Rattle.mds_trace.specs.Verdict.{verdict_text}
use Rattle.mds_io.specs.Page.{with_newline}

-- the line of an item: its index, and what is said of it
abbrev pub item_line : ℕ → Verdict → List ℕ
item_line index verdict = decimal index ++ codes " " ++ verdict_text verdict

-- the state that a vehicle holds, where it is known, and how many of its events were accepted
abbrev pub held_text : Option Standing → List ℕ
held_text None = codes "unknown 0"
held_text (Some standing) = name_of standing.state ++ codes " " ++ decimal standing.events

-- the states in which a vehicle may have opened, where nothing was taken for given
abbrev pub from_text : Opening → List State → List ℕ
from_text Removed openings = []
from_text Any openings = codes " from " ++ names_of openings

-- the line of a vehicle: its key, what it holds, and how it may have opened
abbrev pub vehicle_line : Opening → VehicleEnd → List ℕ
vehicle_line opening end =
    codes "vehicle " ++ hyphenated_text lower end.key.provider
    ++ codes " " ++ hyphenated_text lower end.key.device ++ codes " "
    ++ held_text end.standing ++ from_text opening end.openings

-- the last line
abbrev pub total_line : ℕ → ℕ → List ℕ
total_line accepted refused =
    codes "accepted " ++ decimal accepted ++ codes " refused " ++ decimal refused

-- the lines of items, of which the first has this index
abbrev pub item_lines : ℕ → List Verdict → List ℕ
item_lines index [] = []
item_lines index (verdict ∷ rest) =
    with_newline (item_line index verdict) ++ item_lines (index + 1) rest

-- a line for each vehicle
abbrev pub vehicle_lines : Opening → List VehicleEnd → List ℕ
vehicle_lines opening ends = flat_map (λ end. with_newline (vehicle_line opening end)) ends

-- all that is printed of a replay: a line an item, a line a vehicle, and the totals
abbrev pub report_text : Opening → Report → List ℕ
report_text opening report =
    item_lines 0 report.lines.items ++ vehicle_lines opening report.vehicles.items
    ++ with_newline (total_line report.accepted report.refused)

-- the line of a row: its type, and the states that it leads from and to
abbrev pub row_line : Row → List ℕ
row_line row = row.kind ++ codes " " ++ name_of row.from ++ codes " " ++ name_of row.to

-- a line for each row
abbrev pub row_lines : List Row → List ℕ
row_lines rows = flat_map (λ row. with_newline (row_line row)) rows

-- the last line of a table
abbrev pub count_line : ℕ → List ℕ
count_line count = codes "rows " ++ decimal count

-- what is printed of a table's rows: a line a row, in row order, and their number
abbrev pub rows_text : List Row → List ℕ
rows_text rows = row_lines rows ++ with_newline (count_line (length rows))

-- the line that says from when a table is in force
abbrev pub from_line : ℕ → List ℕ
from_line start = codes "from " ++ decimal start

-- what stands before the rows of one of so many tables: that line, but nothing where the table is
-- alone
abbrev pub heading : ℕ → ℕ → List ℕ
heading count start = if count == 1 then [] else with_newline (from_line start)

-- what is printed of one of so many tables
abbrev pub entry_text : ℕ → Entry → List ℕ
entry_text count entry = heading count (start_of entry) ++ rows_text (rows_of entry)

-- all that is printed of tables, in order of time
abbrev pub table_text : Tables → List ℕ
table_text tables = flat_map (entry_text (length tables)) tables
