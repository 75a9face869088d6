-- What the callers of a shard noted.
use Rattle.std.specs.Prelude.{◌≡◌, ℕ, ◌==◌, ◌&&◌, List, Bool, All, Any, sum_by, count_by}
use Rattle.mds_core.specs.Headline.{is_done}
use Rattle.mds_settle.specs.declared.note.Note.{Note}

-- the note is of this shard, and its reply has this place
abbrev pub IsAt : ℕ → ℕ → Note → Type 0
IsAt shard place note = (note.shard ≡ shard) × (note.reply.place ≡ place)

-- each note of this shard, of any caller
abbrev pub EachNote : {X : Type 0} → ℕ → (Note → Type 0) → (X → List Note) → List X → Type 0
EachNote shard P seen lists =
    All (λ list. All (λ note. note.shard ≡ shard → P note) (seen list)) lists

-- some note of this shard with this place, of any caller
abbrev pub SomeNoteAt : {X : Type 0} → ℕ → ℕ → (Note → Type 0) → (X → List Note) → List X → Type 0
SomeNoteAt shard place P seen lists =
    Any (λ list. Any (λ note. IsAt shard place note × P note) (seen list)) lists

-- the note is of this shard, has this place, and its call was accepted
abbrev pub accepted_at : ℕ → ℕ → Note → Bool
accepted_at shard place note =
    ((note.shard == shard) && (note.reply.place == place)) && is_done note.reply.outcome

-- how many accepted notes of this shard have this place, over all callers
abbrev pub notes_at : {X : Type 0} → ℕ → ℕ → (X → List Note) → List X → ℕ
notes_at shard place seen lists =
    sum_by (λ list. count_by (accepted_at shard place) (seen list)) lists
