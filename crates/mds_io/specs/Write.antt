-- What writes in a bounded number of calls do to the bytes that are known.
use Rattle.std.specs.Prelude.{ℕ, ◌<◌, ◌≤◌, List, length, take, Option}
use Rattle.std.specs.Io.KnownBytes.{Appends, Keeps}
use Rattle.mds_io.specs.declared.call.Call.{Call}
use Rattle.mds_io.specs.declared.call.Call.TheVariants.{Moved, Nothing, Again, Failed}

-- what a call of `write` did to the known bytes: it took a front of these, or nothing
abbrev pub Writes : Call → Option (List ℕ) → Option (List ℕ) → List ℕ → Type 0
Writes (Moved count) old new bytes =
    (0 < count) × (count ≤ length bytes) × Appends old new (take count bytes)
Writes Nothing old new bytes = Keeps old new
Writes Again old new bytes = Keeps old new
Writes Failed old new bytes = Keeps old new
