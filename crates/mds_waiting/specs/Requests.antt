-- When a request is whole, by what the reader of requests says of its head.
use Rattle.std.specs.Prelude.{◌≡◌, ◌≢◌, ℕ, ◌+◌, ◌≤◌, nat_le, List, All, length}
use Rattle.std.specs.Prelude.{Option, Some, None, IfSome, IsSomeAnd, if◌then◌else◌}
use Rattle.mds_table.specs.Json.{max_bytes}
use Rattle.mds_http.specs.Head.{max_head}
use Rattle.mds_http.specs.HeadStatus.{IsHead, IsHeadStatus}
use Rattle.mds_http.specs.declared.request.head_status.Head.{Head}
use Rattle.mds_http.specs.declared.request.head_status.HeadStatus.{HeadStatus}
use Rattle.mds_http.specs.declared.request.head_status.HeadStatus.TheVariants.{Partial, Invalid}
use Rattle.mds_http.specs.declared.request.head_status.HeadStatus.TheVariants.{Rejected, Complete}

-- the most bytes of a request: those of the longest head, and of the longest body
abbrev pub max_request : ℕ
max_request = max_head + max_bytes

-- as soon as how many bytes are there a request is whole of which these are there, and of whose
-- head the reader says this: its head, and as many bytes behind it as that announces; none further
-- where there is no head, or it has a fault, or is too long; it isn't known yet where the head may
-- yet come
abbrev pub total_by : List ℕ → HeadStatus → Option ℕ
total_by bytes Partial = if nat_le max_head (length bytes) then Some max_head else None
total_by bytes Invalid = Some 0
total_by bytes (Rejected fault) = Some 0
total_by bytes (Complete aim start len) = Some (start + len)

-- the head of which the reader says this, where it is there and has no fault
abbrev pub head_in : HeadStatus → Option Head
head_in (Complete aim start len) = Some (record { aim = aim; start = start; len = len })
head_in other = None

-- a request is whole of which these bytes are there, and this is its head, if it has one without a
-- fault
abbrev pub IsWhole : List ℕ → Option Head → Type 0
IsWhole bytes head = (status : HeadStatus) × IsHeadStatus bytes status
    × IsSomeAnd (total_by bytes status) (λ total. total ≤ length bytes) × (head ≡ head_in status)

-- these bytes begin with this head, if one is told
abbrev pub BeginsWith : List ℕ → Option Head → Type 0
BeginsWith bytes told = IfSome told (IsHead bytes)

-- these bytes are a request, or a front of one, and nothing behind it
abbrev pub IsRequestAlone : List ℕ → Type 0
IsRequestAlone bytes = (head : Head) × IsHead bytes head × (length bytes ≤ head.start + head.len)

-- no line ends in these bytes
abbrev pub NoLineEnds : List ℕ → Type 0
NoLineEnds bytes = All (λ byte. byte ≢ 10) bytes
