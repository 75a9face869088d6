-- A book that is filled again with requests that were accepted before.
use Rattle.std.specs.Prelude.{◌≡◌, ◌⊎◌, ◌≤◌, ◌+◌, ◌++◌, ◌∷◌, [], ℕ, List, All, length}
use Rattle.std.specs.Prelude.{Result, OnOk, IfErr}
use mathlib.Core.List.{IsPrefix}
use Rattle.mds_table.specs.Tables.{Tables}
use Rattle.mds_core.specs.declared.request.Request.{Request}
use Rattle.mds_core.specs.History.{key_of}
use Rattle.mds_core.specs.Answer.{MayBeDone}
use Rattle.mds_settle.specs.declared.note.Note.{Note}
use Rattle.mds_log.specs.Log.{Acceptance, requests}
use Rattle.mds_book.specs.declared.refilling.RefillStop.{RefillStop}
use Rattle.mds_book.specs.declared.refilling.RefillFault.TheVariants.{Refused}
use Rattle.mds_book.specs.Shards.{shard_of, part}
use Rattle.mds_book.specs.Seats.{Seated}
use Rattle.mds_book.specs.Sights.{AreTrue, Parted, ShardRules}
use Rattle.mds_book.specs.Notes.{AreWithin, told}

-- all that the seat has seen of the shards it asked itself
pub record HasAll (seat : Seated) : Type 0 where
  pub first : seat.first ≡ length seat.first_seen
  pub second : seat.second ≡ length seat.second_seen

-- the seat has seen these requests, in their order, behind what it had seen of their shards, and
-- nothing else
pub record IsFilled (old : Seated) (told : List Request) (new : Seated) : Type 0 where
  pub first : new.first_seen ≡ old.first_seen ++ part 0 told
  pub second : new.second_seen ≡ old.second_seen ++ part 1 told

-- one of some requests, behind so many of them, is of the shard of this number, and may not be done
-- behind what was seen of the shard and those of the requests before it that are of that shard
pub record IsRefusedIn (tables : Tables) (number : ℕ) (seen requests : List Request) (at : ℕ)
    : Type 0 where
  pub before : List Request
  pub request : Request
  pub rest : List Request
  pub split : requests ≡ before ++ request ∷ rest
  pub count : at ≡ length before
  pub here : shard_of (key_of request) ≡ number
  pub refused : MayBeDone tables (seen ++ part number before) request → ⊥

-- one of some requests, behind so many of them, may not be done in its shard
abbrev pub IsRefusedAt : Tables → Seated → List Request → ℕ → Type 0
IsRefusedAt tables seat requests at =
    IsRefusedIn tables 0 seat.first_seen requests at
    ⊎ IsRefusedIn tables 1 seat.second_seen requests at

-- all notes are of the shard of this number
abbrev pub AreNotesOf : ℕ → List Note → Type 0
AreNotesOf number notes = All (λ note. note.shard ≡ number) notes

-- a seat's part of a shard, and notes of what was asked of it
pub record PartNotes : Type 0 where
  pub part : Parted
  pub notes : List Note

-- what kept notes of one shard tell, beside what their part has seen of its log
abbrev pub told_of : {N : Type 0} → (N → ℕ) → (N → List Request → Note) → Parted → List N
    → PartNotes
told_of number tells one kept =
    record { part = one; notes = told number tells (λ _. requests one.sight.seen) kept }

-- kept notes are of the shard of this number, and what was seen of its log is enough to tell them
pub record AreKeptOf {N : Type 0} (number : N → ℕ) (is_within : N → List Request → Type 0)
    (shard : ℕ) (log : List Acceptance) (kept : List N) : Type 0 where
  pub of_shard : All (λ note. number note ≡ shard) kept
  pub within : AreWithin number is_within (λ _. requests log) kept

-- the part with these notes behind others
abbrev pub AreTrueBehind : ShardRules → List Note → PartNotes → Type 0
AreTrueBehind rules before told =
    AreTrue rules told.part.sight.seen told.part.mark (before ++ told.notes) told.part.count

-- requests were asked of a shard, those that are of it: at most so many notes stand behind the
-- old ones, and whatever was noted before them, all are true still
pub record Asks (rules : ShardRules) (old : PartNotes) (told : List Request)
    (new : PartNotes) : Type 0 where
  pub begins : IsPrefix old.part.sight.seen new.part.sight.seen
  pub stay : (before : List Note) → AreTrueBehind rules before old → AreTrueBehind rules before new
  pub few : length new.notes ≤ length old.notes + length (part rules.number told)

-- they were all accepted, and nobody else has asked the shard
pub record AreAccepted (number : ℕ) (old : Parted) (told : List Request) (new : Parted)
    : Type 0 where
  pub all : new.count ≡ length new.sight.seen
  pub seen : requests new.sight.seen ≡ requests old.sight.seen ++ part number told

-- what comes of asking a shard those of some requests that are of it, up to the first that isn't
-- accepted, with the notes of what was
pub record IsAsked (rules : ShardRules) (old : Parted) (told : List Request)
    (new : PartNotes) (asked : Result (Unit {0}) RefillStop) : Type 0 where
  pub asks : Asks rules (record { part = old; notes = [] }) told new
  pub of_shard : AreNotesOf rules.number new.notes
  pub accepted : OnOk asked (AreAccepted rules.number old told new.part)
  pub refused : IfErr asked (λ stop. stop.fault ≡ Refused
      → IsRefusedIn rules.tables rules.number (requests old.sight.seen) told stop.at)
  pub within : IfErr asked (λ stop. stop.at ≤ length told)
