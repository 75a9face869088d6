-- What callers of a book can rely on, by the definitions alone.
use Rattle.std.specs.Prelude.{◌≡◌, ◌⊎◌, ℕ, List, Some, slice_get}
use mathlib.Core.List.{IsPrefix}
use Rattle.mds_table.specs.Tables.{Tables}
use Rattle.mds_core.specs.declared.request.Request.{Request}
use Rattle.mds_core.specs.declared.reply.Reply.{Reply}
use Rattle.mds_core.specs.declared.reply.Outcome.TheVariants.{Done}
use Rattle.mds_core.specs.History.{key_of}
use Rattle.mds_book.specs.Shards.{shard_of}
use Rattle.mds_book.specs.Seats.{IsCalled, Seated, seen_in}
use Rattle.mds_book.specs.Gathering.{Collected}
use Rattle.mds_book.specs.Settling.{AreBeginnings, IsSettledBook, IsTorn}

-- of two lists of requests, one is a beginning of the other
abbrev pub OneBegins : List Request → List Request → Type 0
OneBegins one other = IsPrefix one other ⊎ IsPrefix other one

-- in a settled book, of what two callers saw of a shard one is a beginning of the other
abbrev pub SightsAreOne : Type 0
SightsAreOne =
    (all : Collected) (place next shard : ℕ) (seat other : Seated)
    → AreBeginnings all → slice_get all.seats place ≡ Some seat
    → slice_get all.seats next ≡ Some other
    → OneBegins (seen_in seat shard) (seen_in other shard)

-- what a caller was told stands: a request that was accepted is at its place in all that begins
-- with what the caller saw then
abbrev pub AcceptedStands : Type 0
AcceptedStands =
    (tables : Tables) (old new later : Seated) (request : Request) (reply : Reply)
    → IsCalled tables old request reply new → reply.outcome ≡ Done
    → IsPrefix (seen_in new (shard_of (key_of request))) (seen_in later (shard_of (key_of request)))
    → slice_get (seen_in later (shard_of (key_of request))) reply.place ≡ Some request

-- of a settled book no place is at fault, in either shard: judging its notes finds that they fit
abbrev pub SettledIsNotTorn : Type 0
SettledIsNotTorn =
    (all : Collected) (shard place : ℕ) → IsSettledBook all → IsTorn all shard place → ⊥
