-- What the first bytes of a stream say of the head of the request, and which bytes determine what
-- is asked for.
use Rattle.std.specs.Prelude.{◌≡◌, ℕ, ◌+◌, ◌≤◌, true, List, ◌++◌, length, take, Some, None}
use Rattle.httparse.specs.Grammar.{RequestHead, print_request, HasNoRequest, MayBecomeRequest}
use Rattle.mds_table.specs.Json.{max_bytes}
use Rattle.mds_core.specs.declared.key.Key.{Key}
use Rattle.mds_http.specs.declared.request.aim.Aim.{Aim}
use Rattle.mds_http.specs.declared.request.head_status.Head.{Head}
use Rattle.mds_http.specs.declared.request.head_status.HeadStatus.{HeadStatus}
use Rattle.mds_http.specs.declared.request.head_status.HeadStatus.TheVariants.{Partial, Invalid}
use Rattle.mds_http.specs.declared.request.head_status.HeadStatus.TheVariants.{Rejected, Complete}
use Rattle.mds_http.specs.Asked.{Asked}
use Rattle.mds_http.specs.Head.{max_head, HasHead, NeverHasHead}
use Rattle.mds_http.specs.Routes.{aim_in}
use Rattle.mds_http.specs.Plan.{is_post, body_length, head_fault, IsPlan}

-- a head without a fault: what it is about, how many bytes it has, and how many its body
pub record IsComplete (head : RequestHead) (aim : Aim Key) (start len : ℕ) : Type 0 where
  pub faultless : head_fault head ≡ None
  pub aim_is : aim_in head.target ≡ Some aim
  pub start_is : start ≡ length (print_request head)
  pub len_is : len ≡ body_length head

-- what a whole head comes to: its first fault, or that it has none
abbrev pub IsJudged : RequestHead → HeadStatus → Type 0
IsJudged head (Rejected fault) = head_fault head ≡ Some fault
IsJudged head (Complete aim start len) = IsComplete head aim start len
IsJudged head other = ⊥

-- what bytes say of the head: none is there whole, of however many fields, and one may yet come;
-- none ever comes; it has a fault; or it has none
abbrev pub IsHeadStatus : List ℕ → HeadStatus → Type 0
IsHeadStatus bytes Partial =
    HasNoRequest (take max_head bytes) × MayBecomeRequest (take max_head bytes)
IsHeadStatus bytes Invalid = NeverHasHead bytes
IsHeadStatus bytes (Rejected fault) =
    (head : RequestHead) × HasHead bytes head × IsJudged head (Rejected fault)
IsHeadStatus bytes (Complete aim start len) =
    (head : RequestHead) × HasHead bytes head × IsJudged head (Complete aim start len)

-- what is said of a head without a fault: of its bytes, and of those of its body
abbrev pub IfComplete : HeadStatus → (ℕ → ℕ → Type 0) → Type 0
IfComplete (Complete aim start len) Says = Says start len
IfComplete other Says = Unit {0}

-- the head lies in these bytes and is short enough, and the body isn't too long
abbrev pub IsInReach : List ℕ → HeadStatus → Type 0
IsInReach bytes status =
    IfComplete status (λ start len. (start ≤ length bytes) × (start ≤ max_head) × (len ≤ max_bytes))

-- these bytes begin with this head, which has no fault
abbrev pub IsHead : List ℕ → Head → Type 0
IsHead bytes head =
    IsHeadStatus bytes (Complete head.aim head.start head.len)
    × IsInReach bytes (Complete head.aim head.start head.len)

-- a body is read: that of a POST, where all of it is there
abbrev pub HasBody : List ℕ → HeadStatus → Type 0
HasBody stream (Complete aim start len) =
    (is_post (Some aim) ≡ true) × (start + len ≤ length stream)
HasBody stream other = ⊥

-- a stream holds a request with a body that is read
abbrev pub HoldsBody : List ℕ → Type 0
HoldsBody stream = (status : HeadStatus) × IsHeadStatus stream status × HasBody stream status

-- what the first stream asks for, the second asks for too
abbrev pub SamePlans : List ℕ → List ℕ → Type 0
SamePlans bytes stream = (asked : Asked) → IsPlan bytes asked → IsPlan stream asked

-- whatever bytes follow, the same is asked for
abbrev pub DeterminesPlan : List ℕ → Type 0
DeterminesPlan bytes = (more : List ℕ) → SamePlans bytes (bytes ++ more)

-- with what follows, as soon as there are this many bytes, they determine what is asked for
abbrev pub DeterminesPlanFrom : List ℕ → ℕ → Type 0
DeterminesPlanFrom bytes total =
    (more : List ℕ) → total ≤ length (bytes ++ more) → DeterminesPlan (bytes ++ more)
