-- What was read of a stream, and whether it says what the stream asks for.
use Rattle.std.specs.Prelude.{◌≡◌, ◌⊎◌, ℕ, ◌+◌, ◌-◌, ◌≤◌, List, ◌++◌, length, Option}
use Rattle.std.specs.Io.KnownBytes.{Consumes, IsAtEnd}
use Rattle.mds_core.specs.declared.key.Key.{Key}
use Rattle.mds_http.specs.declared.request.aim.Aim.{Aim}
use Rattle.mds_http.specs.declared.request.head_status.HeadStatus.{HeadStatus}
use Rattle.mds_http.specs.declared.request.head_status.HeadStatus.TheVariants.{Complete}
use Rattle.mds_http.specs.Head.{max_head}
use Rattle.mds_http.specs.HeadStatus.{DeterminesPlan, IsHeadStatus, IsInReach}

-- the bytes held grew by what the reader lost
abbrev pub Grows : Option (List ℕ) → Option (List ℕ) → List ℕ → List ℕ → Type 0
Grows old new held grown = (more : List ℕ) × (grown ≡ held ++ more) × Consumes old new more

-- this is what the bytes read say of a head, and its body is in reach
pub record HasStatus (bytes : List ℕ) (status : HeadStatus) : Type 0 where
  pub head : IsHeadStatus bytes status
  pub in_reach : IsInReach bytes status

-- the bytes read say what the whole stream asks for: nothing is left of it, or what is left doesn't
-- matter
abbrev pub IsEnough : Option (List ℕ) → List ℕ → Type 0
IsEnough left bytes = IsAtEnd left ⊎ DeterminesPlan bytes

-- the reader lost no more than a head may have, or than its request has: a head without a fault,
-- and its body
abbrev pub ReadsNoFurther : Option (List ℕ) → Option (List ℕ) → Type 0
ReadsNoFurther old new =
    (bytes : List ℕ) × Consumes old new bytes
    × ((length bytes ≤ max_head)
    ⊎ ((aim : Aim Key) × (start : ℕ) × (len : ℕ)
    × IsHeadStatus bytes (Complete aim start len) × (length bytes ≤ start + len)))

-- how many bytes are yet wanting of a body that is announced
abbrev pub missing_bytes : HeadStatus → ℕ → ℕ
missing_bytes (Complete aim start len) there = start + len - there
missing_bytes other there = 0
