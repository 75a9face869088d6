-- What holds of what streams ask for, whoever reads them.
use Rattle.std.specs.Prelude.{◌≡◌, ℕ, ◌+◌, ◌≤◌, List, ◌++◌, length}
use Rattle.mds_core.specs.declared.key.Key.{Key}
use Rattle.mds_http.specs.declared.request.aim.Aim.{Aim}
use Rattle.mds_http.specs.declared.request.fault.HttpFault.{HttpFault}
use Rattle.mds_http.specs.declared.request.head_status.HeadStatus.TheVariants.{Partial, Invalid}
use Rattle.mds_http.specs.declared.request.head_status.HeadStatus.TheVariants.{Rejected, Complete}
use Rattle.mds_http.specs.Asked.{Asked}
use Rattle.mds_http.specs.Head.{max_head}
use Rattle.mds_http.specs.Plan.{IsPlan}
use Rattle.mds_http.specs.HeadStatus.{IsHeadStatus, DeterminesPlan, DeterminesPlanFrom}

-- a stream asks for one thing
abbrev pub PlansAreOne : Type 0
PlansAreOne =
    (stream : List ℕ) (asked other : Asked)
    → IsPlan stream asked → IsPlan stream other → asked ≡ other

-- bytes that no head begins with, whatever follows, determine what is asked for
abbrev pub InvalidDetermines : Type 0
InvalidDetermines = (bytes : List ℕ) → IsHeadStatus bytes Invalid → DeterminesPlan bytes

-- as many bytes as a head may have determine it where they hold no head
abbrev pub PartialDetermines : Type 0
PartialDetermines =
    (bytes : List ℕ) → IsHeadStatus bytes Partial → max_head ≤ length bytes → DeterminesPlan bytes

-- a head with a fault determines it
abbrev pub RejectedDetermines : Type 0
RejectedDetermines =
    (bytes : List ℕ) (fault : HttpFault)
    → IsHeadStatus bytes (Rejected fault) → DeterminesPlan bytes

-- a head without a fault determines it as soon as the body is there
abbrev pub CompleteDetermines : Type 0
CompleteDetermines =
    (bytes : List ℕ) (aim : Aim Key) (start len : ℕ)
    → IsHeadStatus bytes (Complete aim start len) → DeterminesPlanFrom bytes (start + len)

-- the bytes that follow change no status but that of a head that may yet come
abbrev pub StatusesStay : Type 0
StatusesStay =
    (bytes more : List ℕ)
    → (IsHeadStatus bytes Invalid → IsHeadStatus (bytes ++ more) Invalid)
    × ((fault : HttpFault)
    → IsHeadStatus bytes (Rejected fault) → IsHeadStatus (bytes ++ more) (Rejected fault))
    × ((aim : Aim Key) (start len : ℕ)
    → IsHeadStatus bytes (Complete aim start len)
    → IsHeadStatus (bytes ++ more) (Complete aim start len))
