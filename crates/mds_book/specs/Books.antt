-- What contracts see of a book.
use Rattle.std.specs.Prelude.{◌≡◌, ◌<◌, ◌≤◌, ◌⊎◌, ℕ, List, Option, codes}
use Rattle.mds_book.specs.declared.book.OpenFault.{OpenFault}
use Rattle.mds_book.specs.declared.book.OpenFault.TheVariants.{Memory, BadSeats}
use Rattle.mds_table.specs.Tables.{Tables}
use Rattle.mds_core.specs.declared.key.Key.{Key}
use Rattle.mds_core.specs.declared.request.Request.{Request}
use Rattle.mds_core.specs.Reported.{Reported}
use Rattle.mds_core.specs.Machine.{Machine, events_in}
use Rattle.mds_core.specs.Lawful.{IsLawful}
use Rattle.logbook.specs.Pages.{Book}
use Rattle.mds_book.specs.Shards.{shard_of, AreOfShard}

-- the tables of the book, and the number of its seats
pub record Opened : Type 0 where
  pub tables : Tables
  pub seats : ℕ

-- which ledger, log and marks the blank of a shard is, and into how many parts its ledger is cut
pub record Blanked : Type 0 where
  pub name : ℕ
  pub parts : ℕ
  pub log : Book
  pub marks : Book

-- the most seats of a book, and so the most workers that serve it
abbrev pub max_seats : ℕ
max_seats = 64

-- a number of seats that a book may have
abbrev pub IsSeatCount : ℕ → Type 0
IsSeatCount seats = (0 < seats) × (seats ≤ max_seats)

-- a number of seats that it may not have
abbrev pub IsBadCount : ℕ → Type 0
IsBadCount seats = (seats ≡ 0) ⊎ (max_seats < seats)

-- the word for a fault
abbrev pub open_fault_text : OpenFault → List ℕ
open_fault_text Memory = codes "memory"
open_fault_text BadSeats = codes "bad_seats"

-- these are the vehicle's events after some lawful history of its shard, if it is registered there
abbrev pub GivesEvents : Tables → Key → Option (List Reported) → Type 0
GivesEvents tables key found =
    (history : List Request)
    × IsLawful tables history × AreOfShard (shard_of key) history × (found ≡ events_in history key)

-- the shard of this number in a book over these tables: its history is lawful, and its vehicles
-- have this number
pub record IsShardOf (tables : Tables) (number : ℕ) (shard : Machine) : Type 0 where
  pub over : shard.tables ≡ tables
  pub lawful : IsLawful shard.tables shard.history
  pub of_shard : AreOfShard number shard.history

-- something is seen of the shard of this number
abbrev pub SeesShard : Tables → ℕ → (Machine → Type 0) → Type 0
SeesShard tables number Sees =
    (shard : Machine) × IsShardOf tables number shard × Sees shard
