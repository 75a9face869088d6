-- What one life of a server leaves to the next.
use Rattle.std.specs.Prelude.{◌≡◌, ℕ, suc, List, take, Some, slice_get}
use mathlib.Core.List.{IsPrefix}
use Rattle.mds_core.specs.declared.key.Key.{Key}
use Rattle.mds_core.specs.declared.request.Request.{Request}
use Rattle.mds_core.specs.History.{requests_of}
use Rattle.mds_log.specs.Log.{Acceptance, requests}
use Rattle.mds_book.specs.Shards.{shard_of, part}
use Rattle.mds_follow.specs.Record.{BeginsWith, IsSafe}

-- requests were recorded in one life, this one last, and are safe; what a restart read after a
-- crash since then is what the next life was opened over, and so what is recorded in that one
-- begins with it
pub record IsNextLife (left_since : ℕ → List Request → Type 0) (now : ℕ)
    (recorded told : List Acceptance) (last : Acceptance) : Type 0 where
  pub safe : IsSafe left_since now recorded
  pub place : ℕ
  pub stands_last : slice_get recorded place ≡ Some last
  pub all : take (suc place) recorded ≡ recorded
  pub read : List Request
  pub left : left_since last.tag read
  pub opened : BeginsWith (λ held. held ≡ read) (requests told)

-- of a file: what was seen of a shard, and is recorded in one life, begins the history of the shard
-- in the next
abbrev pub AnswersStandInTheNextLife : {F : Type 0} → (F → ℕ → List Request → Type 0) → Type 0
AnswersStandInTheNextLife {F} left_since =
    (file : F) (now : ℕ) (recorded told : List Acceptance)
    (last : Acceptance) (number : ℕ) (seen history : List Request)
    → IsNextLife (left_since file) now recorded told last
    → IsPrefix seen (part number (requests recorded))
    → IsPrefix (part number (requests told)) history
    → IsPrefix seen history

-- of a file: what was seen of a vehicle, and is recorded in one life, begins what the next has of
-- the vehicle
abbrev pub LooksStandInTheNextLife : {F : Type 0} → (F → ℕ → List Request → Type 0) → Type 0
LooksStandInTheNextLife {F} left_since =
    (file : F) (now : ℕ) (recorded told : List Acceptance)
    (last : Acceptance) (key : Key) (seen history : List Request)
    → IsNextLife (left_since file) now recorded told last
    → IsPrefix (requests_of seen key) (requests_of (requests recorded) key)
    → IsPrefix (part (shard_of key) (requests told)) history
    → IsPrefix (requests_of seen key) (requests_of history key)
