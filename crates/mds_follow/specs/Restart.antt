-- A book that is opened again over what was recorded.
use Rattle.std.specs.Prelude.{◌≡◌, ◌<◌, ◌≤◌, ◌^◌, ◌++◌, ◌∷◌, ℕ, List, length}
use Rattle.std.specs.Prelude.{true, IfOk, Some, slice_get}
use Rattle.std.specs.List.{AllZip}
use Rattle.mds_table.specs.Tables.{Tables}
use Rattle.mds_core.specs.declared.request.Request.{Request}
use Rattle.mds_core.specs.Answer.{MayBeDone}
use Rattle.mds_journal.specs.Lines.{recovered_texts}
use Rattle.mds_journal.specs.Opening.{place_of, unread_bytes}
use Rattle.mds_journal.specs.declared.fault.JournalFault.TheVariants.{Refused}
use Rattle.mds_entries.specs.Entry.{Tells}
use Rattle.mds_groups.specs.declared.fault.GroupFault.TheVariants.{Journal as InJournal}
use Rattle.mds_log.specs.Log.{Acceptance, requests}
use Rattle.mds_book.specs.Seats.{Seated}
use Rattle.mds_book.specs.Refilling.{HasAll}
use Rattle.mds_book.specs.Shards.{part}
use Rattle.mds_follow.specs.Disk.{IsTold}
use Rattle.mds_follow.specs.Record.{recorded_at}
use Rattle.mds_follow.specs.Reading.{HasNoMore, HasTexts}
use Rattle.mds_follow.specs.Pieces.{requests_in, IsAhead}
use Rattle.mds_follow.specs.declared.piece.Piece.{Piece}
use Rattle.mds_follow.specs.declared.reader.RequestReader.{RequestReader}
use Rattle.mds_follow.specs.declared.start_fault.StartFault.{StartFault}
use Rattle.mds_follow.specs.declared.start_fault.StartFault.TheVariants.{Memory, Device}
use Rattle.mds_follow.specs.declared.start_fault.StartFault.TheVariants.{Journal, Shared, CutOff}

-- the seat alone has asked a book all that is recorded
pub record IsRefilled (seat : Seated) (told : List Acceptance) : Type 0 where
  pub all : HasAll seat
  pub first : seat.first_seen ≡ part 0 (requests told)
  pub second : seat.second_seen ≡ part 1 (requests told)

-- the seat alone has asked a book all that is recorded, and then these requests
pub record HasAsked (seat : Seated) (told : List Acceptance) (more : List Request) : Type 0 where
  pub all : HasAll seat
  pub first : seat.first_seen ≡ part 0 (requests told) ++ part 0 more
  pub second : seat.second_seen ≡ part 1 (requests told) ++ part 1 more

-- what a start has by then: the file, what is recorded in it, and the requests of a group that was
-- found behind its lines
pub record Resumption (F : Type 0) : Type 0 where
  pub file : F
  pub told : List Acceptance
  pub group : List Request

-- a log of what is recorded begins at this moment, and holds what this file tells then
pub record BeginsOver (start : ℕ) (held : List Request → Type 0) (moment : ℕ) (file : List ℕ)
    : Type 0 where
  pub at_moment : start ≡ moment
  pub holds : (told : List Request) → IsTold (recovered_texts file) told → held told

-- all of it was recorded by this moment, and a restart after any crash since then reads it
pub record IsRead (left_since : ℕ → List Request → Type 0) (start : ℕ) (told : List Acceptance)
    : Type 0 where
  pub at_start : told ≡ recorded_at start (requests told)
  pub only : (c : List Request) → left_since start c → c ≡ requests told

-- the request of this line, one of some whose lines have these numbers, may not be done behind those
-- before it and what is recorded
pub record IsRefused (tables : Tables) (recorded : List Request) (numbers : List ℕ)
    (requests : List Request) (line : ℕ) : Type 0 where
  pub before : List Request
  pub request : Request
  pub rest : List Request
  pub split : requests ≡ before ++ request ∷ rest
  pub number : slice_get numbers (length before) ≡ Some line
  pub refused : MayBeDone tables (recorded ++ before) request → ⊥

-- why not all of these requests are in the book
abbrev pub IsAskFault : Tables → List Request → List ℕ → List Request → StartFault → Type 0
IsAskFault tables recorded numbers requests (Journal (InJournal (Refused line))) =
    IsRefused tables recorded numbers requests line
IsAskFault tables recorded numbers requests (Journal fault) = ⊥
IsAskFault tables recorded numbers requests Memory = Unit {0}
IsAskFault tables recorded numbers requests Device = ⊥
IsAskFault tables recorded numbers requests Shared = Unit {0}
IsAskFault tables recorded numbers requests CutOff = ⊥

-- the piece may be asked by a seat that alone has asked its book
pub record MayBeAsked (seat : Seated) (piece : Piece) : Type 0 where
  pub all : HasAll seat
  pub numbered : length (requests_in piece) ≤ length piece.numbers.items

-- a start over a journal: its reader, the seat that asks, what is recorded by then, and the piece
-- that was read behind it
pub record Resuming (D : Type 0) : Type 0 where
  pub reader : RequestReader D
  pub seat : Seated
  pub recorded : List Acceptance
  pub piece : Piece

abbrev pub resuming : {D : Type 0} → RequestReader D → Seated → List Acceptance → Piece
    → Resuming D
resuming reader seat recorded piece =
    record { reader = reader; seat = seat; recorded = recorded; piece = piece }

-- what is recorded was asked, and is told by the texts before the piece that was read, and no more
-- of the journal
pub record IsHalfway {D : Type 0} (seen : D → List ℕ) (is_true : D → Type 0) (at : Resuming D)
    : Type 0 where
  pub refilled : IsRefilled at.seat at.recorded
  pub numbered : length (requests_in at.piece) ≤ length at.piece.numbers.items
  pub before : List (List ℕ)
  pub told : AllZip Tells before (requests at.recorded)
  pub ahead : IsAhead seen is_true at.reader before at.piece

-- a piece was asked and is recorded, at this moment, and another one was read behind it
pub record IsTaken {D : Type 0} (seen : D → List ℕ) (is_true : D → Type 0) (moment : D → ℕ)
    (old new : Resuming D) : Type 0 where
  pub noted : new.recorded
      ≡ old.recorded ++ recorded_at (moment new.reader.opening.device) (requests_in old.piece)
  pub halfway : IsHalfway seen is_true new
  pub further : IfOk new.piece.end
      (λ more. more ≡ true → place_of old.reader.opening < place_of new.reader.opening)

-- all that the file tells was asked, and is recorded
pub record IsAllTaken {D : Type 0} (seen : D → List ℕ) (is_true : D → Type 0)
    (reader : RequestReader D) (seat : Seated) (recorded : List Acceptance) : Type 0 where
  pub refilled : IsRefilled seat recorded
  pub short : length recorded < 2 ^ 63
  pub texts : List (List ℕ)
  pub has : HasTexts seen is_true reader texts
  pub told : AllZip Tells texts (requests recorded)
  pub done : is_true reader.opening.device → HasNoMore (unread_bytes seen reader.opening)
