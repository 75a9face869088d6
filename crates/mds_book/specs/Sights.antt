-- What a seat saw of a shard's log, and how its notes stand to it.
use Rattle.std.specs.Prelude.{◌≡◌, ℕ, ◌+◌, ◌%◌, ◌^◌, ◌==◌, ◌&&◌, ◌++◌, ◌∷◌, [], List, Bool}
use Rattle.std.specs.Prelude.{true, Some, slice_get, All, AllPairs, count_by, if◌then◌else◌}
use Rattle.mds_table.specs.Tables.{Tables}
use Rattle.mds_core.specs.declared.request.Request.{Request}
use Rattle.mds_core.specs.Headline.{is_done}
use Rattle.mds_settle.specs.declared.note.Note.{Note}
use Rattle.mds_settle.specs.Settled.{HasRightReply, IsInOrder}
use Rattle.mds_log.specs.Log.{Acceptance, requests}

-- the tables of a shard, and its number
pub record ShardRules : Type 0 where
  pub tables : Tables
  pub number : ℕ

abbrev pub rules_in : Tables → ℕ → ShardRules
rules_in tables number = record { tables = tables; number = number }

-- what a seat saw of a log, and how many turns it had: each showed it the whole log, under the
-- shard's lock
pub record Sighted : Type 0 where
  pub seen : List Acceptance
  pub turns : ℕ

-- what a seat has of a shard: how many of its calls were accepted there, what it saw of the log,
-- and its mark
pub record Parted : Type 0 where
  pub count : ℕ
  pub sight : Sighted
  pub mark : ℕ

-- one turn more; they are counted in 64 bits
abbrev pub next_turn : ℕ → ℕ
next_turn turns = (turns + 1) % 2 ^ 64

-- the log after a call of the seat with this mark
abbrev pub log_after : List Acceptance → ℕ → Request → Bool → List Acceptance
log_after log mark request done =
    if done then log ++ record { tag = mark; request = request } ∷ [] else log

-- the note is of this shard, and its call was accepted
abbrev pub accepted_of : ℕ → Note → Bool
accepted_of shard note = (note.shard == shard) && is_done note.reply.outcome

-- the notes of the seat with this mark are true to what it saw of the shard's log, and so many of
-- them are accepted
pub record AreTrue (rules : ShardRules) (log : List Acceptance) (mark : ℕ) (notes : List Note)
    (count : ℕ) : Type 0 where
  -- each reply is the answer after so many entries as its place says
  pub answered : All
      (λ note. note.shard ≡ rules.number → HasRightReply rules.tables (requests log) note) notes
  -- what was accepted stands at its place, under this mark
  pub stored : All (λ note. note.shard ≡ rules.number → is_done note.reply.outcome ≡ true
      → slice_get log note.reply.place ≡ Some (record { tag = mark; request = note.request })) notes
  pub ordered : AllPairs (IsInOrder rules.number) notes
  pub counted : count_by (accepted_of rules.number) notes ≡ count
