-- What decides which events are allowed: tables that change at stated times.
use Rattle.std.specs.Prelude.{ℕ, List, [], Bool, nat_le, None, option_map, unwrap_or, filter}
use Rattle.std.specs.List.{last_or}
use Rattle.mds_table.specs.declared.row.Row.{Row}

-- a table, by its rows, and the time from which it is in force, in milliseconds since the Unix
-- epoch
abbrev pub Entry : Type 0
Entry = ℕ × List Row

-- the time from which the table is in force
abbrev pub start_of : Entry → ℕ
start_of entry = entry.0

-- the rows of the table
abbrev pub rows_of : Entry → List Row
rows_of entry = entry.1

-- what decides: tables in order of the times from which they are in force
abbrev pub Tables : Type 0
Tables = List Entry

-- the table has started by this time
abbrev pub has_started : ℕ → Entry → Bool
has_started time entry = nat_le (start_of entry) time

-- the rows that are in force at a time: those of the last table that has started by then
abbrev pub rows_at : Tables → ℕ → List Row
rows_at tables time =
    unwrap_or (option_map rows_of (last_or None (filter (has_started time) tables))) []
