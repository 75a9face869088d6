-- Where the callers' notes don't fit the history of a shard.
use Rattle.std.specs.Prelude.{◌≡◌, ℕ, ◌<◌, List, length, take, slice_get, Some, true, Any}
use Rattle.mds_table.specs.Tables.{Tables}
use Rattle.mds_core.specs.declared.request.Request.{Request}
use Rattle.mds_core.specs.Headline.{is_done}
use Rattle.mds_settle.specs.declared.note.Note.{Note}
use Rattle.mds_settle.specs.Notes.{IsAt, SomeNoteAt, notes_at}
use Rattle.mds_settle.specs.Settled.{HasRightReply, IsStored, least_after}

-- one of a caller's notes has this place in this shard, and follows a note of the shard that asks
-- for a greater one
abbrev pub HasLate : ℕ → ℕ → List Note → Type 0
HasLate shard place notes =
    (i : ℕ) × (note : Note) × (slice_get notes i ≡ Some note) × IsAt shard place note
    × Any (λ earlier. (earlier.shard ≡ shard) × (place < least_after earlier)) (take i notes)

-- what can be wrong at a place
pub data FaultAt {X : Type 0} (tables : Tables) (shard : ℕ) (history : List Request)
    (seen : X → List Note) (lists : List X) (place : ℕ) : Type 0 where
  -- a note with this place has a reply that isn't the answer after so many entries, or there aren't
  -- so many
  wrong_reply : SomeNoteAt shard place (λ note. HasRightReply tables history note → ⊥) seen lists
      → FaultAt tables shard history seen lists place
  -- an accepted note with this place has another request than the entry, or there is no entry
  wrong_entry : SomeNoteAt shard place
      (λ note. (is_done note.reply.outcome ≡ true) × (IsStored history note → ⊥)) seen lists
      → FaultAt tables shard history seen lists place
  -- two accepted notes have this place
  twice : 1 < notes_at shard place seen lists → FaultAt tables shard history seen lists place
  -- the entry at this place has no accepted note
  missing : place < length history → notes_at shard place seen lists ≡ 0
      → FaultAt tables shard history seen lists place
  -- a note with this place follows one of its caller's notes with a greater place, or an accepted
  -- one with this place
  late : Any (λ list. HasLate shard place (seen list)) lists
      → FaultAt tables shard history seen lists place

-- something is wrong at this place, and nothing at any place before it
pub record IsLeastFault {X : Type 0} (tables : Tables) (shard : ℕ) (history : List Request)
    (seen : X → List Note) (lists : List X) (place : ℕ) : Type 0 where
  pub fault : FaultAt tables shard history seen lists place
  pub least : (before : ℕ) → before < place → FaultAt tables shard history seen lists before → ⊥
