-- The notes of a seat, by the form in which they are kept.
use Rattle.std.specs.Prelude.{◌≡◌, ◌≤◌, ◌+◌, ℕ, ◌==◌, ◌++◌, List, Bool, All, map, Some, slice_get, true, length}
use Rattle.std.specs.Prelude.{if◌then◌else◌}
use mathlib.Core.List.{IsPrefix}
use Rattle.mds_core.specs.declared.request.Request.{Request}
use Rattle.mds_core.specs.declared.reply.Reply.{Reply}
use Rattle.mds_core.specs.Headline.{is_done}
use Rattle.mds_core.specs.History.{key_of}
use Rattle.mds_settle.specs.declared.note.Note.{Note}
use Rattle.mds_book.specs.Shards.{shard_of}
use Rattle.mds_book.specs.Seats.{notes_of_call}

-- notes as they are kept, and for how many further ones there is room
pub record KeptNotes (N : Type 0) : Type 0 where
  pub list : List N
  pub room : ℕ

-- what was seen of the shard of each number
abbrev pub seen_by : List Request → List Request → ℕ → List Request
seen_by first second number = if number == 0 then first else second

-- what kept notes tell, each beside what was seen of its shard
abbrev pub told : {N : Type 0} → (N → ℕ) → (N → List Request → Note) → (ℕ → List Request)
    → List N → List Note
told number tells seen kept = map (λ note. tells note (seen (number note))) kept

-- enough was seen of the shard of each to tell it
abbrev pub AreWithin : {N : Type 0} → (N → ℕ) → (N → List Request → Type 0) → (ℕ → List Request)
    → List N → Type 0
AreWithin number is_within seen kept = All (λ note. is_within note (seen (number note))) kept

-- all that was seen stands at the beginning of what is seen now
abbrev pub SeesMore : (ℕ → List Request) → (ℕ → List Request) → Type 0
SeesMore was seen = (number : ℕ) → IsPrefix (was number) (seen number)

-- kept notes tell the same where more is seen
pub record TellMore {N : Type 0} (number : N → ℕ) (tells : N → List Request → Note)
    (is_within : N → List Request → Type 0) (kept : List N) : Type 0 where
  pub within : (was seen : ℕ → List Request) → SeesMore was seen
      → AreWithin number is_within was kept → AreWithin number is_within seen kept
  pub same : (was seen : ℕ → List Request) → SeesMore was seen
      → AreWithin number is_within was kept
      → told number tells seen kept ≡ told number tells was kept

-- where the call was accepted, its request stands at its place in what is seen of its shard
abbrev pub IsSeen : (ℕ → List Request) → Request → Reply → Type 0
IsSeen seen request reply =
    is_done reply.outcome ≡ true
    → slice_get (seen (shard_of (key_of request))) reply.place ≡ Some request

-- a call is noted behind the others, which tell the same where more is seen
pub record IsNoted {N : Type 0} (number : N → ℕ) (tells : N → List Request → Note)
    (is_within : N → List Request → Type 0) (all : Bool) (request : Request) (reply : Reply)
    (old new : List N) : Type 0 where
  pub within : (was seen : ℕ → List Request) → SeesMore was seen
      → AreWithin number is_within was old → IsSeen seen request reply
      → AreWithin number is_within seen new
  pub same : (was seen : ℕ → List Request) → SeesMore was seen
      → AreWithin number is_within was old → IsSeen seen request reply
      → told number tells seen new ≡ told number tells was old ++ notes_of_call all request reply
  pub few : length new ≤ length old + 1
  pub of_shard : All (λ note. number note ≡ shard_of (key_of request)) old
      → All (λ note. number note ≡ shard_of (key_of request)) new

-- a seat may keep its notes so: enough was seen to tell each, and all calls are noted only where
-- the form can do it
pub record AreKept {N : Type 0} (number : N → ℕ) (is_within : N → List Request → Type 0)
    (notes_all : Bool) (seen : ℕ → List Request) (kept : List N) (all : Bool) : Type 0 where
  pub within : AreWithin number is_within seen kept
  pub may : all ≡ true → notes_all ≡ true
