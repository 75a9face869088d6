-- What reads in a bounded number of calls do to the bytes that are known.
use Rattle.std.specs.Prelude.{◌≡◌, ℕ, ◌+◌, ◌<◌, ◌≤◌, List, [], ◌++◌, length, take, Option, IfSome}
use Rattle.std.specs.Io.KnownBytes.{Consumes, IsAtEnd}
use Rattle.mds_io.specs.declared.read.TheConstants.{CHUNK_BYTES}
use Rattle.mds_io.specs.declared.read.ReadError.{ReadError}
use Rattle.mds_io.specs.declared.read.ReadError.TheVariants.{Memory, Device, TooManyTurns}
use Rattle.mds_io.specs.declared.call.Call.{Call}
use Rattle.mds_io.specs.declared.call.Call.TheVariants.{Moved, Nothing, Again, Failed}

-- where it is known what the reader had left, the bytes are all of that, or the first `limit` of it
abbrev pub HasFront : ℕ → Option (List ℕ) → List ℕ → Type 0
HasFront limit known bytes = IfSome known (λ file. bytes ≡ take limit file)

-- the reader lost a front of its known bytes, at most `limit` of them
abbrev pub ConsumesUpTo : ℕ → Option (List ℕ) → Option (List ℕ) → Type 0
ConsumesUpTo limit old new = (front : List ℕ) × (length front ≤ limit) × Consumes old new front

-- the bytes held grew by what the reader lost of its known bytes, at most so many
abbrev pub Gains : ℕ → Option (List ℕ) → Option (List ℕ) → List ℕ → List ℕ → Type 0
Gains most old new held grown =
    (more : List ℕ) × (length more ≤ most) × (grown ≡ held ++ more) × Consumes old new more

-- what reading that stopped left: the bytes held grew by what the reader lost, at most so many; for
-- want of memory those of the last call, for which there is so much room, were lost
abbrev pub StopsAt : ReadError → ℕ → ℕ → Option (List ℕ)
    → Option (List ℕ) → List ℕ → List ℕ → Type 0
StopsAt Memory room most old new held grown =
    (more : List ℕ) × (lost : List ℕ) × (0 < length lost) × (length lost ≤ room)
    × (length more + length lost ≤ most) × (grown ≡ held ++ more) × Consumes old new (more ++ lost)
StopsAt Device room most old new held grown = Gains most old new held grown
StopsAt TooManyTurns room most old new held grown = Gains most old new held grown

-- what reading from no bytes that stopped so before the limit lost
abbrev pub LosesAt : ReadError → ℕ → Option (List ℕ) → Option (List ℕ) → Type 0
LosesAt fault limit old new =
    (held : List ℕ) × (length held < limit) × StopsAt fault CHUNK_BYTES limit old new [] held

-- what a call of `read` did to the known bytes: it gave a front of the room, met the end, or gave
-- nothing
abbrev pub Reads : Call → Option (List ℕ) → Option (List ℕ) → List ℕ → Type 0
Reads (Moved count) old new room =
    (0 < count) × (count ≤ length room) × Consumes old new (take count room)
Reads Nothing old new room = Consumes old new [] × IsAtEnd new
Reads Again old new room = Consumes old new []
Reads Failed old new room = Consumes old new []
