-- What is recorded in a file, and what a restart reads of it after a crash.
use Rattle.std.specs.Prelude.{◌≡◌, ◌⊎◌, ◌≤◌, ◌<◌, ◌^◌, ◌++◌, ℕ, suc}
use Rattle.std.specs.Prelude.{List, length, take, map, Some, slice_get, Result, Ok, Err}
use mathlib.Core.List.{IsPrefix}
use Rattle.mds_core.specs.declared.request.Request.{Request}
use Rattle.mds_log.specs.Log.{Acceptance, requests}
use Rattle.mds_book.specs.Shards.{part}
use Rattle.mds_book.specs.declared.record_fault.RecordFault.{RecordFault}
use Rattle.mds_book.specs.declared.record_fault.RecordFault.TheVariants.{Memory, NotKept, Lost}

-- these requests, with all of a group behind them or with none of it
abbrev pub IsBeforeOrAfter : List Request → List Request → List Request → Type 0
IsBeforeOrAfter told group c = (c ≡ told) ⊎ (c ≡ told ++ group)

-- time went on: after a crash since t a restart reads what it might have read before, or what has P
pub record Passes {F : Type 0} (moment : F → ℕ) (left_since : F → ℕ → List Request → Type 0)
    (old new : F) (P : List Request → Type 0) : Type 0 where
  pub later : moment old ≤ moment new
  pub before : (t : ℕ) (c : List Request)
      → t ≤ moment old → left_since new t c → left_since old t c ⊎ P c

-- the fault says that nothing was recorded, and that the record may go on as before
abbrev pub HasSame : RecordFault → Type 0
HasSame Memory = Unit {0}
HasSame NotKept = Unit {0}
HasSame Lost = ⊥

-- whether a record may go on after an append, as it could before: one that recorded the group could,
-- and one that didn't can where the fault says so
abbrev pub GoesOn : Result (Unit {0}) RecordFault → Type 0 → Type 0 → Type 0
GoesOn (Ok done) could can = could
GoesOn (Err fault) could can = (can → could) × (can → HasSame fault) × (HasSame fault → could → can)

-- requests that were recorded at this moment
abbrev pub recorded_at : ℕ → List Request → List Acceptance
recorded_at moment group = map (λ request. record { tag = moment; request = request }) group

-- each request was recorded at a moment that is past, and a restart after any crash since then
-- reads it behind those before it
abbrev pub IsSafe : (ℕ → List Request → Type 0) → ℕ → List Acceptance → Type 0
IsSafe left_since now told =
    (place : ℕ) (one : Acceptance)
    → slice_get told place ≡ Some one
    → (one.tag ≤ now)
    × ((c : List Request) → left_since one.tag c → IsPrefix (requests (take (suc place) told)) c)

-- whatever a restart reads after a crash since then, its requests of this shard are a beginning of
-- this history
abbrev pub IsSound : (ℕ → List Request → Type 0) → ℕ → ℕ → List Request → Type 0
IsSound left_since start number history =
    (c : List Request) → left_since start c → IsPrefix (part number c) history

-- these requests begin with some of which this holds
pub record BeginsWith (held : List Request → Type 0) (told : List Request) : Type 0 where
  pub old : List Request
  pub is_held : held old
  pub begins : IsPrefix old told

-- what is recorded begins with requests of which this holds, each recorded at that moment
pub record BeginsAt (held : List Request → Type 0) (start : ℕ) (told : List Acceptance)
    : Type 0 where
  pub old : List Request
  pub is_held : held old
  pub begins : IsPrefix (recorded_at start old) told

-- what is known of a file and of what is recorded in it since the moment `start`, at which it told
-- requests of which `held` holds: these are recorded since then, so they are safe against a crash
-- at any moment since
pub record IsDesk {F : Type 0} (is_sound is_true may_go_on : F → Type 0)
    (stands : F → List Request → Type 0) (moment : F → ℕ)
    (left_since : F → ℕ → List Request → Type 0) (start : ℕ) (held : List Request → Type 0)
    (file : F) (told : List Acceptance) : Type 0 where
  pub sound : is_sound file
  pub short : length told < 2 ^ 63
  pub begun : is_true file → start ≤ moment file
  pub safe : is_true file → IsSafe (left_since file) (moment file) told
  pub kept : is_true file → may_go_on file → stands file (requests told)
  pub old : is_true file → BeginsAt held start told
