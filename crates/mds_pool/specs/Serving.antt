-- What serving a port came to.
use Rattle.std.specs.Prelude.{◌≡◌, ℕ, List, length, replicate, false, Result, Ok, Err}
use Rattle.std.specs.List.{All}
use Rattle.mds_table.specs.Tables.{Tables}
use Rattle.logbook.specs.Pages.{Book}
use Rattle.mds_book.specs.Books.{IsSeatCount, Opened}
use Rattle.mds_book.specs.Seats.{Seated}
use Rattle.mds_book.specs.Gathering.{Collected, IsGathered, IsWhole}
use Rattle.mds_book.specs.Settling.{AreBeginnings, IsSettledBook}
use Rattle.mds_pool.specs.declared.serving.NewBook.{NewBook}
use Rattle.mds_pool.specs.declared.serving.Stop.{Stop}

-- what the ledger of a shard names: itself, its parts, the shard's log and marks, and the tables
pub record Names : Type 0 where
  pub name : ℕ
  pub parts : ℕ
  pub log : Book
  pub marks : Book
  pub tables : Tables

abbrev pub names_of : ℕ → ℕ → Book → Book → Tables → Names
names_of name parts log marks tables =
    record { name = name; parts = parts; log = log; marks = marks; tables = tables }

-- a book may be opened from it under these names: its blanks and its tables are those that the
-- ledgers of its two shards name, and each ledger has a part for each seat
pub record Fits (one other : Names) (opening : NewBook) : Type 0 where
  pub first : (opening.first.name ≡ one.name) × (opening.first.parts ≡ one.parts)
  pub second : (opening.second.name ≡ other.name) × (opening.second.parts ≡ other.parts)
  pub first_log : (opening.first.log ≡ one.log) × (opening.first.marks ≡ one.marks)
  pub second_log : (opening.second.log ≡ other.log) × (opening.second.marks ≡ other.marks)
  pub parts : (opening.first.parts ≡ opening.seats) × (opening.second.parts ≡ opening.seats)
  pub tables : (opening.tables ≡ one.tables) × (opening.tables ≡ other.tables)
  pub seats : IsSeatCount opening.seats

-- what settling a book all of whose seats are handed in came to: the settled book, in which what
-- each seat saw of a shard is a beginning of the shard's history
abbrev pub IsSettledEnd : Opened → List Seated → Collected → Type 0
IsSettledEnd book seats all = IsGathered book seats all × IsSettledBook all × AreBeginnings all

-- the seats are so many, and note the calls that were accepted
abbrev pub AreWorkers : ℕ → List Seated → Type 0
AreWorkers count seats = (length seats ≡ count) × All (λ seat. seat.keeps_all ≡ false) seats

-- what a book over these tables held in the end, with the seats of so many workers
pub record IsLeft (over : Tables) (count : ℕ) (all : Collected) : Type 0 where
  pub tables : all.tables ≡ over
  pub workers : AreWorkers count all.seats
  pub whole : IsWhole all

-- a settled book, and how many connections each of its workers answered
pub record AtEnd : Type 0 where
  pub all : Collected
  pub answered : List ℕ

-- what serving with these tables, and so many workers that were to answer so many connections each,
-- came to: they answered them, and the book is settled, in which what each seat saw of a shard is a
-- beginning of the shard's history; or it stopped before
abbrev pub IsEnded : Tables → ℕ → ℕ → Result AtEnd Stop → Type 0
IsEnded tables workers each (Ok ended) =
    IsLeft tables workers ended.all
    × IsSettledBook ended.all
    × AreBeginnings ended.all
    × (ended.answered ≡ replicate workers each)
IsEnded tables workers each (Err stop) = Unit {0}
