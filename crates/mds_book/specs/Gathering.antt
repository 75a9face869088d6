-- What is left of a book once all its seats came back.
use Rattle.std.specs.Prelude.{◌≡◌, ◌⊎◌, ◌++◌, ℕ, ◌==◌, List, [], length, sum_by}
use Rattle.std.specs.Prelude.{Option, Some, None, slice_get, if◌then◌else◌}
use Rattle.std.specs.Option.{option_map}
use Rattle.mds_table.specs.Tables.{Tables}
use Rattle.mds_core.specs.declared.key.Key.{Key}
use Rattle.mds_core.specs.declared.request.Request.{Request}
use Rattle.mds_core.specs.History.{requests_of}
use Rattle.mds_core.specs.Lawful.{IsLawful}
use Rattle.mds_settle.specs.declared.note.Note.{Note}
use Rattle.mds_book.specs.Shards.{AreOfShard}
use Rattle.mds_book.specs.Seats.{Seated}
use Rattle.mds_book.specs.Books.{Opened}

-- the tables of the book, the history of each shard, and the seats in the order in which they were
-- handed in
pub record Collected : Type 0 where
  pub tables : Tables
  pub first : List Request
  pub second : List Request
  pub seats : List Seated

-- what the shard of this number accepted
abbrev pub history_of : Collected → ℕ → Option (List Request)
history_of all shard =
    if shard == 0 then Some all.first else (if shard == 1 then Some all.second else None)

-- the notes of the seat at this place
abbrev pub notes_of : Collected → ℕ → Option (List Note)
notes_of all place = option_map (λ seat. seat.notes) (slice_get all.seats place)

-- no vehicle stands in both histories, and so they are lawful one after the other
pub record AreApart (all : Collected) : Type 0 where
  pub no_key_in_both : (key : Key)
      → (requests_of all.first key ≡ []) ⊎ (requests_of all.second key ≡ [])
  pub joined : IsLawful all.tables (all.first ++ all.second)

-- both histories are lawful, each of its shard, and as long as what the seats counted there
pub record IsWhole (all : Collected) : Type 0 where
  pub lawful : IsLawful all.tables all.first × IsLawful all.tables all.second
  pub of_shard : AreOfShard 0 all.first × AreOfShard 1 all.second
  pub first_counted : length all.first ≡ sum_by (λ seat. seat.first) all.seats
  pub second_counted : length all.second ≡ sum_by (λ seat. seat.second) all.seats
  pub apart : AreApart all

-- all that a book and its seats held
pub record IsGathered (book : Opened) (handed : List Seated) (all : Collected) : Type 0 where
  pub tables : all.tables ≡ book.tables
  pub seats : all.seats ≡ handed
  pub whole : IsWhole all
