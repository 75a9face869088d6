-- The requests of a journal, a piece of them at a time.
use Rattle.std.specs.Prelude.{◌≡◌, ◌⊎◌, ℕ, ◌+◌, ◌^◌, ◌<◌, ◌≤◌, List, [], ◌∷◌, ◌++◌, length, map}
use Rattle.std.specs.Prelude.{Bool, true, false, Result, Ok, Err, IfOk, Some, slice_get, Vec}
use Rattle.std.specs.List.{AllZip}
use Rattle.mds_core.specs.declared.request.Request.{Request}
use Rattle.mds_journal.specs.Lines.{recovered_texts}
use Rattle.mds_journal.specs.Opening.{place_of, unread_bytes}
use Rattle.mds_journal.specs.declared.fault.JournalFault.TheVariants.{BadLine as bad_line}
use Rattle.mds_entries.specs.Entry.{Tells, IsFaultOfLine}
use Rattle.mds_entries.specs.declared.entry.EntryFault.{EntryFault}
use Rattle.mds_entries.specs.declared.entry.EntryFault.TheVariants.{Memory, BadLine, NoLine}
use Rattle.mds_groups.specs.Entries.{AreEntries}
use Rattle.mds_groups.specs.declared.fault.GroupFault.TheVariants.{Journal as InJournal}
use Rattle.mds_follow.specs.Reading.{HasNoMore, HasTexts, StopsBehind, TellsNone}
use Rattle.mds_follow.specs.declared.ahead.Ahead.{Ahead}
use Rattle.mds_follow.specs.declared.piece.Piece.{Piece}
use Rattle.mds_follow.specs.declared.reader.RequestReader.{RequestReader}
use Rattle.mds_follow.specs.declared.start_fault.StartFault.{StartFault}
use Rattle.mds_follow.specs.declared.start_fault.StartFault.TheVariants as start

-- the texts of lines
abbrev pub texts_in : {A : Type 0} → List (Vec ℕ A) → List (List ℕ)
texts_in lines = map (λ line. line.items) lines

-- why the first of these texts, which may be none, gives no request
abbrev pub IsTextFault : List (List ℕ) → EntryFault → Type 0
IsTextFault texts Memory = Unit {0}
IsTextFault (text ∷ texts) BadLine = IsFaultOfLine text BadLine
IsTextFault (text ∷ texts) NoLine = IsFaultOfLine text NoLine
IsTextFault [] BadLine = ⊥
IsTextFault [] NoLine = ⊥

-- these texts tell these requests, in their order; or the first of them do, and the next one none
abbrev pub AreRead : List (List ℕ) → List Request → Result (Unit {0}) EntryFault → Type 0
AreRead texts requests (Ok done) = AllZip Tells texts requests
AreRead texts requests (Err fault) =
    (front : List (List ℕ)) × (rest : List (List ℕ))
    × (texts ≡ front ++ rest) × AllZip Tells front requests × IsTextFault rest fault

-- of two answers, one behind the other, the first that is a fault
abbrev pub first_fault : Result (Unit {0}) EntryFault → Result (Unit {0}) EntryFault
    → Result (Unit {0}) EntryFault
first_fault (Ok done) other = other
first_fault (Err fault) other = Err fault

-- the requests of a piece, in their order
abbrev pub requests_in : Piece → List Request
requests_in piece = piece.first.requests.items ++ piece.second.requests.items

-- nothing was read yet, and more may come
pub record IsFirstPiece (piece : Piece) : Type 0 where
  pub empty : requests_in piece ≡ []
  pub more : piece.end ≡ Ok true

-- what is said of the text whose number stands at this place, and which gives no request
abbrev pub IsSaid : List ℕ → ℕ → EntryFault → StartFault → Type 0
IsSaid numbers place Memory said = said ≡ start.Memory
IsSaid numbers place BadLine said =
    (line : ℕ) × (slice_get numbers place ≡ Some line)
    × (said ≡ start.Journal (InJournal (bad_line line)))
IsSaid numbers place NoLine said =
    (line : ℕ) × (slice_get numbers place ≡ Some line)
    × (said ≡ start.Journal (InJournal (bad_line line)))

-- why the first of these texts, whose number stands at this place, gives no request; want of memory
-- says nothing of it
abbrev pub IsTextStop : List (List ℕ) → List ℕ → ℕ → StartFault → Type 0
IsTextStop texts numbers place (start.Journal (InJournal (bad_line line))) =
    (text : List ℕ) × (rest : List (List ℕ)) × (texts ≡ text ∷ rest) × TellsNone text
    × (slice_get numbers place ≡ Some line)
IsTextStop texts numbers place (start.Journal fault) = ⊥
IsTextStop texts numbers place start.Memory = Unit {0}
IsTextStop texts numbers place start.Device = ⊥
IsTextStop texts numbers place start.Shared = ⊥
IsTextStop texts numbers place start.CutOff = ⊥

-- a piece has the requests of the first of these texts: of all, and this end, or of those before one
-- that tells none
pub record IsReadFrom (texts : List (List ℕ)) (end : Result Bool StartFault) (piece : Piece)
    : Type 0 where
  pub front : List (List ℕ)
  pub rest : List (List ℕ)
  pub split : texts ≡ front ++ rest
  pub told : AllZip Tells front (requests_in piece)
  pub stops : ((rest ≡ []) × (piece.end ≡ end))
      ⊎ ((fault : StartFault) × (piece.end ≡ Err fault)
      × IsTextStop rest piece.numbers.items (length front) fault)

-- what comes behind texts that were read: maybe more, no more lines, or a stop
abbrev pub IsEndBehind : {D : Type 0} → (D → List ℕ) → (D → Type 0) → RequestReader D
    → List (List ℕ) → Result Bool StartFault → Type 0
IsEndBehind seen is_true reader before (Ok true) = HasTexts seen is_true reader before
IsEndBehind seen is_true reader before (Ok false) =
    HasTexts seen is_true reader before
    × (is_true reader.opening.device → HasNoMore (unread_bytes seen reader.opening))
IsEndBehind seen is_true reader before (Err fault) =
    is_true reader.opening.device
    → StopsBehind (seen reader.opening.device) before fault

-- behind some texts these come, whose lines have these numbers, and behind them this end
pub record StandBehind {D : Type 0} (seen : D → List ℕ) (is_true : D → Type 0)
    (reader : RequestReader D) (before texts : List (List ℕ)) (numbers : List ℕ)
    (end : Result Bool StartFault) : Type 0 where
  pub short : length before + length texts ≤ 2 ^ 62
  pub entries : is_true reader.opening.device
      → AreEntries (recovered_texts (seen reader.opening.device)) before texts numbers
  pub end_is : IsEndBehind seen is_true reader (before ++ texts) end

-- groups were read, whose texts are the lines of a piece; what comes behind them
pub record AreLinesRead {D : Type 0} (seen : D → List ℕ) (is_true : D → Type 0)
    (old : RequestReader D) (new : Ahead D) (end : Result Bool StartFault) : Type 0 where
  pub numbered : length new.next.numbers.items ≡ length new.lines.items
  pub further : IfOk end (λ more. more ≡ true → place_of old.opening < place_of new.reader.opening)
  pub behind : (before : List (List ℕ)) → HasTexts seen is_true old before
      → StandBehind seen is_true new.reader before (texts_in new.lines.items)
      new.next.numbers.items end

-- behind some texts this piece was read, and no more of the journal
pub record IsAhead {D : Type 0} (seen : D → List ℕ) (is_true : D → Type 0)
    (reader : RequestReader D) (before : List (List ℕ)) (piece : Piece) : Type 0 where
  pub texts : List (List ℕ)
  pub told : AllZip Tells texts (requests_in piece)
  pub stand : StandBehind seen is_true reader before texts piece.numbers.items piece.end

-- a piece was read from where a reader was, and this is how far the journal is read with it
pub record IsNext {D : Type 0} (seen : D → List ℕ) (is_true : D → Type 0)
    (old new : RequestReader D) (piece : Piece) : Type 0 where
  pub numbered : length (requests_in piece) ≤ length piece.numbers.items
  pub further : IfOk piece.end (λ more. more ≡ true → place_of old.opening < place_of new.opening)
  pub ahead : (before : List (List ℕ)) → HasTexts seen is_true old before
      → IsAhead seen is_true new before piece
