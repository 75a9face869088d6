-- How far a shard's history was copied.
use Rattle.std.specs.Prelude.{◌≡◌, ◌≤◌, ◌+◌, ◌++◌, ◌==◌, ℕ, List}
use Rattle.std.specs.Prelude.{[], length, take, drop, if◌then◌else◌}
use mathlib.Core.List.{IsPrefix}
use Rattle.mds_table.specs.Tables.{Tables}
use Rattle.mds_core.specs.declared.request.Request.{Request}
use Rattle.mds_core.specs.Lawful.{IsLawful}
use Rattle.mds_book.specs.Shards.{AreOfShard}

-- a beginning of a shard's history that was seen, and how many of its requests were copied
pub record Progressed : Type 0 where
  pub seen : List Request
  pub count : ℕ

-- the requests that were copied
abbrev pub copied_requests : Progressed → List Request
copied_requests progress = take progress.count progress.seen

-- the requests that were copied of the shard of this number, of those of both
abbrev pub copied_in : Progressed → Progressed → ℕ → List Request
copied_in first second number =
    if number == 0 then copied_requests first else copied_requests second

-- the most requests of a piece
abbrev pub max_piece : ℕ
max_piece = 256

-- a piece of a history, from this place on; it is empty at the history's end alone
pub record IsPiece (from : ℕ) (history piece : List Request) : Type 0 where
  pub here : piece ≡ take (length piece) (drop from history)
  pub short : length piece ≤ max_piece
  pub none : piece ≡ [] → from ≡ length history

-- the shard's whole history was seen, which was lawful, and a piece of it was copied, from the end
-- of what had been copied
pub record IsCopied (tables : Tables) (number : ℕ) (old : Progressed) (piece : List Request)
    (new : Progressed) : Type 0 where
  pub seen : IsPrefix old.seen new.seen
  pub lawful : IsLawful tables new.seen
  pub of_shard : AreOfShard number new.seen
  pub next : IsPiece old.count new.seen piece
  pub count : new.count ≡ old.count + length piece
  pub copied : copied_requests new ≡ copied_requests old ++ piece

-- a piece was copied behind what stood in a list
pub record AddsPiece (tables : Tables) (number : ℕ) (old : Progressed) (before after : List Request)
    (new : Progressed) : Type 0 where
  pub piece : List Request
  pub behind : after ≡ before ++ piece
  pub is_copied : IsCopied tables number old piece new
