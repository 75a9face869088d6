-- How a bound on the least fault is lowered, and how accepted notes are counted below it.
use Rattle.std.specs.Prelude.{◌≡◌, ◌≢◌, ◌⊎◌, ℕ, ◌<◌, ◌≤◌, ◌==◌, ◌&&◌, min, nat_lt, List}
use Rattle.std.specs.Prelude.{Option, Some, None, Bool, true, MatchOption, sum_by, count_by}
use Rattle.mds_table.specs.Tables.{Tables}
use Rattle.mds_core.specs.declared.request.Request.{Request}
use Rattle.mds_core.specs.Headline.{is_done}
use Rattle.mds_settle.specs.declared.note.Note.{Note}
use Rattle.mds_settle.specs.Notes.{IsAt, notes_at}
use Rattle.mds_settle.specs.Settled.{HasRightReply, IsStored, least_after}

-- a place below a bound; where there is no bound, any place
abbrev pub IsBelow : ℕ → Option ℕ → Type 0
IsBelow place None = Unit {0}
IsBelow place (Some bound) = place < bound

-- a bound stays or is lowered: what is fine below it holds of the new one, and a new one is at a
-- fault
pub record IsLowered (Fine : Option ℕ → Type 0) (Fault : ℕ → Type 0) (old new : Option ℕ)
    : Type 0 where
  pub fine : Fine new
  pub lower : (place : ℕ) → IsBelow place new → IsBelow place old
  pub fault : (new ≡ old) ⊎ MatchOption new ⊥ Fault

-- the reply is right, and so is the place of an accepted note
pub record IsTrueTo (tables : Tables) (history : List Request) (note : Note) : Type 0 where
  pub answered : HasRightReply tables history note
  pub stored : is_done note.reply.outcome ≡ true → IsStored history note

-- the reply is wrong, or the place of an accepted note
pub data IsWrong (tables : Tables) (history : List Request) (note : Note) : Type 0 where
  bad_reply : (HasRightReply tables history note → ⊥) → IsWrong tables history note
  bad_entry : is_done note.reply.outcome ≡ true
      → (IsStored history note → ⊥) → IsWrong tables history note

-- the note is true to the history, if it is of the shard and has a place below the bound
abbrev pub IsTrueBelow : Tables → ℕ → List Request → Option ℕ → Note → Type 0
IsTrueBelow tables shard history bound note =
    note.shard ≡ shard → IsBelow note.reply.place bound → IsTrueTo tables history note

-- the note is of the shard, has this place, and is wrong
abbrev pub IsWrongAt : Tables → ℕ → List Request → ℕ → Note → Type 0
IsWrongAt tables shard history place note = IsAt shard place note × IsWrong tables history note

-- the note has no place before the least that it may have, if it is of the shard and has a place
-- below the bound
abbrev pub IsPromptBelow : ℕ → ℕ → Option ℕ → Note → Type 0
IsPromptBelow shard next bound note =
    note.shard ≡ shard → IsBelow note.reply.place bound → next ≤ note.reply.place

-- of two notes of the shard the later one, if its place is below the bound, has no place before the
-- least that it may have
abbrev pub IsInOrderBelow : ℕ → Option ℕ → Note → Note → Type 0
IsInOrderBelow shard bound note later =
    note.shard ≡ shard → IsPromptBelow shard (least_after note) bound later

-- an accepted note of the shard with a place below this one
abbrev pub accepted_below : ℕ → ℕ → Note → Bool
accepted_below shard place note =
    ((note.shard == shard) && nat_lt note.reply.place place) && is_done note.reply.outcome

-- how many accepted notes of the shard have a place below this one, over all callers
abbrev pub notes_below : {X : Type 0} → ℕ → ℕ → (X → List Note) → List X → ℕ
notes_below shard place seen lists =
    sum_by (λ list. count_by (accepted_below shard place) (seen list)) lists

-- each place below this one has exactly one accepted note of the shard
abbrev pub AreOnceBelow : {X : Type 0} → ℕ → ℕ → (X → List Note) → List X → Type 0
AreOnceBelow shard end seen lists = (place : ℕ) → place < end → notes_at shard place seen lists ≡ 1

-- the first place below the end that hasn't exactly one accepted note of the shard
pub record IsFirstMiscounted {X : Type 0} (shard end : ℕ) (seen : X → List Note) (lists : List X)
    (place : ℕ) : Type 0 where
  pub within : place < end
  pub miscounted : notes_at shard place seen lists ≢ 1
  pub before : AreOnceBelow shard place seen lists

-- the end of the places that are counted: the bound or the length, whichever is the lesser
abbrev pub end_by : Option ℕ → ℕ → ℕ
end_by None count = count
end_by (Some bound) count = min bound count
