-- When the callers' notes fit the history of a shard.
use Rattle.std.specs.Prelude.{◌≡◌, ℕ, ◌+◌, ◌<◌, ◌≤◌, List, length, take}
use Rattle.std.specs.Prelude.{slice_get, Some, true, All, AllPairs, if◌then◌else◌}
use Rattle.mds_table.specs.Tables.{Tables}
use Rattle.mds_core.specs.declared.request.Request.{Request}
use Rattle.mds_core.specs.Headline.{is_done}
use Rattle.mds_core.specs.Answer.{Answers}
use Rattle.mds_settle.specs.declared.note.Note.{Note}
use Rattle.mds_settle.specs.Notes.{EachNote, notes_at}

-- the history has as many entries as the note's place says, and the reply is the answer after so
-- many
pub record HasRightReply (tables : Tables) (history : List Request) (note : Note) : Type 0 where
  pub within : note.reply.place ≤ length history
  pub answer : Answers tables (take note.reply.place history) note.request note.reply

-- the request is the entry at the note's place
abbrev pub IsStored : List Request → Note → Type 0
IsStored history note = slice_get history note.reply.place ≡ Some note.request

-- the least place that a later note of the same caller may have: one more than the place of an
-- accepted note, since a caller sees what it wrote, and the place of any other
abbrev pub least_after : Note → ℕ
least_after note = if is_done note.reply.outcome then note.reply.place + 1 else note.reply.place

-- of two notes of one caller in this shard, the later one has no place before the least that it may
-- have
abbrev pub IsInOrder : ℕ → Note → Note → Type 0
IsInOrder shard note later =
    note.shard ≡ shard → later.shard ≡ shard → least_after note ≤ later.reply.place

-- the callers' notes fit the history of this shard
pub record IsSettled {X : Type 0} (tables : Tables) (shard : ℕ) (history : List Request)
    (seen : X → List Note) (lists : List X) : Type 0 where
  -- the place of each note is at most the history's length, and its reply is the answer after so
  -- many entries
  pub answered : EachNote shard (HasRightReply tables history) seen lists
  -- the request of an accepted note is the entry at its place
  pub stored : EachNote shard
      (λ note. is_done note.reply.outcome ≡ true → IsStored history note) seen lists
  -- no two accepted notes have one place
  pub once : (place : ℕ) → notes_at shard place seen lists ≤ 1
  -- each entry has an accepted note
  pub complete : (place : ℕ) → place < length history → 1 ≤ notes_at shard place seen lists
  -- the places of one caller's notes never fall, and after an accepted note they are greater than
  -- its place
  pub ordered : All (λ list. AllPairs (IsInOrder shard) (seen list)) lists
