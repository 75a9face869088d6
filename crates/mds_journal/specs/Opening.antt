-- What is known of a file while its lines are read.
use Rattle.std.specs.Prelude.{◌≡◌, ◌≢◌, ◌⊎◌, ℕ, ◌+◌, ◌^◌, ◌<◌, ◌≤◌, List, [], ◌∷◌, ◌++◌}
use Rattle.std.specs.Prelude.{length, take, drop, All, Bool, true, false, Result, Ok, Err}
use Rattle.mds_journal.specs.Lines.{HasNoFeed, recovered_texts, open_lines}
use Rattle.mds_journal.specs.Device.{Only}
use Rattle.mds_journal.specs.Journal.{HasShortEnd}
use Rattle.mds_journal.specs.declared.opening.Found.{Found}
use Rattle.mds_journal.specs.declared.opening.Found.TheVariants.{Line, Shut, More}
use Rattle.mds_journal.specs.declared.opening.OpenError.{OpenError}
use Rattle.mds_journal.specs.declared.opening.Opening.{Opening}

-- the bytes are open lines
pub record AreLines (bytes : List ℕ) : Type 0 where
  pub texts : List (List ℕ)
  pub none : All HasNoFeed texts
  pub split : bytes ≡ open_lines texts

-- from this place on the file has these bytes, and maybe more
pub record GoesOn (file : List ℕ) (at : ℕ) (bytes : List ℕ) : Type 0 where
  pub rest : List ℕ
  pub split : drop at file ≡ bytes ++ rest

-- how many bytes the lines have that were handed out
abbrev pub place_of : {D : Type 0} → Opening D → ℕ
place_of opening = opening.end

-- how many bytes a text may have
abbrev pub limit_of : {D : Type 0} → Opening D → ℕ
limit_of opening = opening.longest

-- how many lines were handed out, which is the number of the next
abbrev pub number_of : {D : Type 0} → Opening D → ℕ
number_of opening = opening.count

-- how many lines an answer hands out
abbrev pub lines_in : Result Bool OpenError → ℕ
lines_in (Ok true) = 1
lines_in (Ok false) = 0
lines_in (Err error) = 0

-- what is behind the lines that were handed out
abbrev pub unread_bytes : {D : Type 0} → (D → List ℕ) → Opening D → List ℕ
unread_bytes seen opening = drop opening.end (seen opening.device)

-- what has been read of that
abbrev pub at_hand : {D : Type 0} → Opening D → List ℕ
at_hand opening = drop opening.next opening.bytes.items

-- all of the file is on the disk, and it begins with the lines that were handed out
pub record IsRead {D : Type 0} (seen : D → List ℕ) (may_leave : D → List ℕ → Type 0)
    (opening : Opening D) : Type 0 where
  pub durable : Only (seen opening.device) (may_leave opening.device)
  pub within : opening.end ≤ length (seen opening.device)
  pub lines : AreLines (take opening.end (seen opening.device))
  pub ahead : GoesOn (seen opening.device) opening.end (at_hand opening)

-- the next line may be asked for
pub record IsReading {D : Type 0} (seen : D → List ℕ) (may_leave : D → List ℕ → Type 0)
    (may_be_used is_true : D → Type 0) (opening : Opening D) : Type 0 where
  pub usable : may_be_used opening.device
  pub short : opening.end ≤ 2 ^ 62
  pub counted : opening.count ≤ opening.end
  pub limit : opening.longest < 2 ^ 62
  pub begins : opening.next ≤ length opening.bytes.items
  pub read : is_true opening.device → IsRead seen may_leave opening

-- an open line whose text has more bytes than the limit comes first
abbrev pub IsTooLong : ℕ → List ℕ → Type 0
IsTooLong limit bytes =
    (text : List ℕ) × (rest : List ℕ)
    × (bytes ≡ 32 ∷ (text ++ rest)) × HasNoFeed text × (limit < length text)

-- what some bytes say of their first line: it is open and its text has a size, or shut, or cut off
abbrev pub IsFound : List ℕ → Found → Type 0
IsFound bytes (Line size) =
    (size < length (drop 1 bytes))
    × (bytes ≡ 32 ∷ (take size (drop 1 bytes) ++ 10 ∷ drop (size + 1) (drop 1 bytes)))
    × HasNoFeed (take size (drop 1 bytes))
IsFound bytes Shut = (gate : ℕ) × (rest : List ℕ) × (bytes ≡ gate ∷ rest) × (gate ≢ 32)
IsFound bytes More = (bytes ≡ []) ⊎ ((text : List ℕ) × (bytes ≡ 32 ∷ text) × HasNoFeed text)

-- this holds if there were not enough
abbrev pub IfMore : Found → Type 0 → Type 0
IfMore (Line size) P = Unit {0}
IfMore Shut P = Unit {0}
IfMore More P = P

-- all of the file is on the disk: lines that were handed out, and an end that stands for nothing
pub record IsReadToEnd {D : Type 0} (seen : D → List ℕ) (may_leave : D → List ℕ → Type 0) (end : ℕ)
    (device : D) : Type 0 where
  pub durable : Only (seen device) (may_leave device)
  pub within : end ≤ length (seen device)
  pub lines : AreLines (take end (seen device))
  pub done : recovered_texts (drop end (seen device)) ≡ []

-- another file stands for the same texts, and if the end of the one is short, so is the other's
pub record KeepsLines (file other : List ℕ) : Type 0 where
  pub lines : recovered_texts other ≡ recovered_texts file
  pub short : HasShortEnd file → HasShortEnd other
