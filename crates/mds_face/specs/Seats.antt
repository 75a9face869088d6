-- What a caller's seat at a book does.
use Rattle.std.specs.Prelude.{◌≡◌, ◌≤◌, ◌+◌, ◌==◌, ◌&&◌, ◌++◌, ℕ, List}
use Rattle.std.specs.Prelude.{count_by, Option, Some, None, true, false}
use mathlib.Core.List.{IsPrefix}
use Rattle.mds_table.specs.Tables.{Tables}
use Rattle.mds_core.specs.declared.request.Request.{Request}
use Rattle.mds_core.specs.declared.reply.Reply.{Reply}
use Rattle.mds_core.specs.History.{key_of}
use Rattle.mds_core.specs.Headline.{is_done}
use Rattle.mds_settle.specs.declared.note.Note.{Note}
use Rattle.mds_book.specs.Shards.{shard_of}
use Rattle.mds_book.specs.Seats.{IsCalled, Seated, accepted_in, is_look}

-- the call is one of the seat's: the reply is the answer after what its vehicle's shard had
-- accepted then, which begins with all that the seat had seen of it, at a place that is no less
-- than the seat's count there; where there is no memory, nothing changes, and it isn't a look that
-- would not be noted
abbrev pub SeatCalls : Tables → Seated → Request → Option Reply → Seated → Type 0
SeatCalls tables old request (Some reply) new =
    IsCalled tables old request reply new
    × (accepted_in old (shard_of (key_of request)) ≤ reply.place)
SeatCalls tables old request None new =
    (new ≡ old) × (is_look request ≡ true → old.keeps_all ≡ false → ⊥)

-- how many notes of calls that were accepted in this shard there are
abbrev pub accepted_notes : ℕ → List Note → ℕ
accepted_notes shard notes =
    count_by (λ note. (shard == note.shard) && is_done note.reply.outcome) notes

-- the earlier notes stand before the others, each count rose by as many as the others tell of calls
-- accepted in its shard, and what had been seen of each shard is a beginning of what is seen now
pub record HasGrown (old new : Seated) : Type 0 where
  pub more : List Note
  pub notes : new.notes ≡ old.notes ++ more
  pub first : new.first ≡ old.first + accepted_notes 0 more
  pub second : new.second ≡ old.second + accepted_notes 1 more
  pub keeps_all : new.keeps_all ≡ old.keeps_all
  pub first_seen : IsPrefix old.first_seen new.first_seen
  pub second_seen : IsPrefix old.second_seen new.second_seen
