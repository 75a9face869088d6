-- What calls at the other side of a connection do to the bytes that are known.
use Rattle.std.specs.Prelude.{◌≡◌, ℕ, ◌+◌, ◌-◌, ◌<◌, ◌≤◌, ◌==◌, List, [], ◌++◌}
use Rattle.std.specs.Prelude.{length, max, take, drop, Option, if◌then◌else◌}
use Rattle.std.specs.Io.KnownBytes.{Appends, Consumes, IsAtEnd, Keeps}
use Rattle.std.specs.declared.io.ErrorKind.{ErrorKind}
use Rattle.std.specs.declared.io.ErrorKind.TheVariants.{Interrupted, WouldBlock}
use Rattle.mds_waiting.specs.declared.peer.Came.{Came}
use Rattle.mds_waiting.specs.declared.peer.Came.TheVariants.{Bytes, Ended, Nothing, Lost}

-- a call that answered a count came to this
abbrev pub came_by : ℕ → Came
came_by count = if count == 0 then Ended else Bytes count

-- a call that failed in this way came to no byte yet, where it would have waited or was interrupted;
-- else the connection is lost
abbrev pub came_without : ErrorKind → Came
came_without WouldBlock = Nothing
came_without Interrupted = Nothing
came_without kind = Lost

-- what a call for bytes did to those that the other side gives: it took a front of them into the
-- room, or none
abbrev pub Receives : Came → Option (List ℕ) → Option (List ℕ) → List ℕ → Type 0
Receives (Bytes count) old new room =
    (0 < count) × (count ≤ length room) × Consumes old new (take count room)
Receives Ended old new room = Consumes old new [] × (0 < length room → IsAtEnd new)
Receives Nothing old new room = Consumes old new []
Receives Lost old new room = Consumes old new []

-- what a call that sends bytes did to those that the other side was sent: they grew by a front of
-- these, or not at all
abbrev pub Sends : Came → Option (List ℕ) → Option (List ℕ) → List ℕ → Type 0
Sends (Bytes count) old new bytes =
    (0 < count) × (count ≤ length bytes) × Appends old new (take count bytes)
Sends Ended old new bytes = Keeps old new
Sends Nothing old new bytes = Keeps old new
Sends Lost old new bytes = Keeps old new

-- those that the other side was sent grew by the bytes of these from the one place on, up to the
-- other
abbrev pub SendsPart : Option (List ℕ) → Option (List ℕ) → List ℕ → ℕ → ℕ → Type 0
SendsPart old new bytes from to =
    (from ≤ to) × (to ≤ max from (length bytes))
    × Appends old new (take (to - from) (drop from bytes))

-- some of what the other side gives was taken, so many bytes at most might be, and so many still
-- may
abbrev pub TakesOf : Option (List ℕ) → Option (List ℕ) → ℕ → ℕ → Type 0
TakesOf old new most left = (more : List ℕ) × (length more + left ≤ most) × Consumes old new more

-- the bytes held grew by what the other side gave
abbrev pub Grows : Option (List ℕ) → Option (List ℕ) → List ℕ → List ℕ → Type 0
Grows old new held grown = (more : List ℕ) × (grown ≡ held ++ more) × Consumes old new more
