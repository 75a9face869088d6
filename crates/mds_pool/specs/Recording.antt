-- What is recorded while a port is served.
use Rattle.std.specs.Prelude.{◌≡◌, ℕ, List, ◌∷◌, Err, false, replicate}
use Rattle.std.specs.List.{All}
use mathlib.Core.List.{IsPrefix}
use Rattle.mds_table.specs.Tables.{Tables}
use Rattle.mds_core.specs.declared.request.Request.{Request}
use Rattle.mds_log.specs.Log.{Acceptance, requests}
use Rattle.mds_book.specs.Gathering.{Collected}
use Rattle.mds_book.specs.Refilling.{HasAll}
use Rattle.mds_book.specs.Seats.{Seated, new_seat}
use Rattle.mds_book.specs.Shards.{part}
use Rattle.mds_follow.specs.Parts.{Covers}
use Rattle.mds_follow.specs.Record.{IsDesk, IsSound}
use Rattle.mds_pool.specs.declared.recorded_book.RecordedStop.{RecordedStop}
use Rattle.mds_pool.specs.declared.recorded_book.RecordedStop.TheVariants.{Serve, Journal}
use Rattle.mds_pool.specs.Serving.{IsEnded}

-- the first seat alone has asked the book, all that it holds, and the others were told nothing
pub record AreResumed (seats : List Seated) : Type 0 where
  pub first : Seated
  pub others : ℕ
  pub split : seats ≡ first ∷ replicate others (new_seat false)
  pub all : HasAll first

-- what serving came to where what is accepted is recorded: as where it isn't, or not all is
-- recorded
abbrev pub IsRecordedStop : Tables → ℕ → ℕ → RecordedStop → Type 0
IsRecordedStop tables workers each (Serve stop) = IsEnded tables workers each (Err stop)
IsRecordedStop tables workers each Journal = Unit {0}

-- what a file tells of what a settled book accepted: all that the seats have seen, and of each
-- shard a beginning of its history. A restart after any crash since the start reads such beginnings
-- too. The file, and what is known of it, are as in `IsDesk`
pub record IsRecordOf {F : Type 0} (is_sound is_true may_go_on : F → Type 0)
    (stands : F → List Request → Type 0) (moment : F → ℕ)
    (left_since : F → ℕ → List Request → Type 0) (start : ℕ) (held : List Request → Type 0)
    (file : F) (all : Collected) : Type 0 where
  pub told : List Acceptance
  pub desk : IsDesk is_sound is_true may_go_on stands moment left_since start held file told
  pub covers : All (λ seat. Covers seat (requests told)) all.seats
  pub first : IsPrefix (part 0 (requests told)) all.first
  pub second : IsPrefix (part 1 (requests told)) all.second
  pub first_sound : is_true file → IsSound (left_since file) start 0 all.first
  pub second_sound : is_true file → IsSound (left_since file) start 1 all.second
