-- What tells where notes don't fit.
use Rattle.std.specs.Prelude.{◌≡◌, ◌⊎◌, ◌<◌, ℕ, List, ◌++◌, Option, codes, decimal, length, take}
use Rattle.std.specs.Io.KnownBytes.{Appends}
use Rattle.mds_commands.specs.declared.status.Status.{Status}
use Rattle.mds_commands.specs.declared.status.Status.TheVariants as status

-- the number of the shard and the place in its history, in a line
abbrev pub torn_text : ℕ → ℕ → List ℕ
torn_text shard place =
    codes "mds_city: torn " ++ decimal shard ++ codes " " ++ decimal place ++ codes "\n"

-- the line of a shard and a place went out whole, or as many of its bytes as the writer took, fewer
-- than all
abbrev pub TellsTorn : ℕ → ℕ → Status → Option (List ℕ) → Option (List ℕ) → Type 0
TellsTorn shard place ended old new =
    ((ended ≡ status.Torn) × Appends old new (torn_text shard place))
    ⊎ ((ended ≡ status.Fault)
    × ((sent : ℕ) × (sent < length (torn_text shard place))
    × Appends old new (take sent (torn_text shard place))))
