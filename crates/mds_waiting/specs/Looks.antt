-- What one look at a connection comes to.
use Rattle.std.specs.Prelude.{◌≡◌, ◌⊎◌, ℕ, List, Option, None}
use Rattle.std.specs.Io.KnownBytes.{IsAtEnd}
use Rattle.mds_http.specs.declared.request.head_status.Head.{Head}
use Rattle.mds_waiting.specs.declared.look.Look.{Look}
use Rattle.mds_waiting.specs.declared.look.Look.TheVariants.{Done, Waits, Gone}
use Rattle.mds_waiting.specs.Requests.{IsWhole}

-- what is said of a request that no more is waited for, and of the head that is told of it
abbrev pub IfDone : Look → (Option Head → Type 0) → Type 0
IfDone (Done head) Says = Says head
IfDone Waits Says = Unit {0}
IfDone Gone Says = Unit {0}

-- a request is whole and has this head, if one without a fault; or its client has ended, and none
-- is told
abbrev pub IsWholeOrEnded : List ℕ → Option (List ℕ) → Option Head → Type 0
IsWholeOrEnded bytes coming head = IsWhole bytes head ⊎ (IsAtEnd coming × (head ≡ None))
