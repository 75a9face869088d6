-- The shards of a book.
use Rattle.std.specs.Prelude.{◌≡◌, ℕ, ◌%◌, ◌==◌, List, filter, if◌then◌else◌}
use Rattle.std.specs.List.{All}
use Rattle.std.specs.Int.{from_be_bytes, w128}
use Rattle.mds_core.specs.declared.key.Key.{Key}
use Rattle.mds_core.specs.declared.request.Request.{Request}
use Rattle.mds_core.specs.declared.reply.Outcome.{Outcome}
use Rattle.mds_core.specs.History.{key_of}
use Rattle.mds_core.specs.Headline.{is_done}

-- the number of the shard that holds a vehicle: its device identifier, as a number, modulo 2
abbrev pub shard_of : Key → ℕ
shard_of key = from_be_bytes w128 key.device % 2

-- every request is about a vehicle of the shard of this number
abbrev pub AreOfShard : ℕ → List Request → Type 0
AreOfShard number history = All (λ request. shard_of (key_of request) ≡ number) history

-- the requests about vehicles of the shard of this number, in their order
abbrev pub part : ℕ → List Request → List Request
part number requests = filter (λ request. shard_of (key_of request) == number) requests

-- what an outcome counts among the accepted ones
abbrev pub count_of : Outcome → ℕ
count_of outcome = if is_done outcome then 1 else 0
