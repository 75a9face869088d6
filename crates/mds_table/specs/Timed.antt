-- Tables in order of their starting times, and the one in force at a time.
use Rattle.std.specs.Prelude.{◌≡◌, ℕ, ◌≤◌, List, length, map}
use Rattle.std.specs.Prelude.{slice_get, true, IfSome, All, Contains}
use Rattle.std.specs.Ordering.{nat_cmp}
use Rattle.mds_table.specs.Row.{ascends}
use Rattle.mds_table.specs.Json.{max_time}
use Rattle.mds_table.specs.Tables.{Entry, start_of, rows_of, Tables, rows_at}

-- the most tables that follow one another
abbrev pub max_tables : ℕ
max_tables = 64

-- tables in order of time: the first starts at 0, each later than the one before, and none past the
-- latest time
pub record AreInTime (tables : Tables) : Type 0 where
  pub first : IfSome (slice_get (map start_of tables) 0) (λ start. start ≡ 0)
  pub rising : ascends nat_cmp (map start_of tables) ≡ true
  pub in_range : All (λ start. start ≤ max_time) (map start_of tables)

-- tables that may follow one another: at least one and not too many, in order of time
pub record AreTimed (tables : Tables) : Type 0 where
  pub some : 1 ≤ length tables
  pub few : length tables ≤ max_tables
  pub times : AreInTime tables

-- the table is the one with the greatest start that isn't past the time
pub record IsLatest (tables : Tables) (time : ℕ) (entry : Entry) : Type 0 where
  pub there : Contains tables entry
  pub started : start_of entry ≤ time
  pub greatest : (other : Entry)
      → Contains tables other → start_of other ≤ time → start_of other ≤ start_of entry

-- of tables in order of time there is at each time a latest one, and its rows are those in force
abbrev pub LatestIsInForce : Type 0
LatestIsInForce = (tables : Tables) (time : ℕ) → AreTimed tables
    → ((entry : Entry) × IsLatest tables time entry)
    × ((entry : Entry) → IsLatest tables time entry → rows_at tables time ≡ rows_of entry)
