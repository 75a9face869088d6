-- What the types of a request's members say of them.
use Rattle.std.specs.Prelude.{◌≡◌, ℕ, ◌<◌, List, length, All, Option, Some, None}
use Rattle.mds_table.specs.TypeName.{IsTypeName}
use Rattle.mds_core.specs.declared.key.Key.{Key}
use Rattle.mds_core.specs.declared.position.Position.{Position}
use Rattle.mds_core.specs.declared.request.Request.{Request}
use Rattle.mds_core.specs.declared.request.Request.TheVariants.{Register, Report, Look}
use Rattle.mds_core.specs.Position.{IsOnEarth}
use Rattle.mds_core.specs.Reported.{Reported, MayBeReported}

-- the bytes of an identifier
pub record AreUuidBytes (bytes : List ℕ) : Type 0 where
  pub count : length bytes ≡ 16
  pub each : All (λ byte. byte < 256) bytes

-- the identifiers of a vehicle
pub record IsWholeKey (key : Key) : Type 0 where
  pub provider : AreUuidBytes key.provider
  pub device : AreUuidBytes key.device

-- a position is on the Earth, where there is one
abbrev pub IsPlace : Option Position → Type 0
IsPlace None = Unit {0}
IsPlace (Some position) = IsOnEarth position.lat position.lng

-- the members of an event
pub record IsWholeEvent (event : Reported) : Type 0 where
  pub key : IsWholeKey event.key
  pub id : AreUuidBytes event.id
  pub types : All IsTypeName event.types
  pub reported : MayBeReported event.types event.time
  pub place : IsPlace event.position

-- the members of a request; those of a look aren't asked for
abbrev pub IsWhole : Request → Type 0
IsWhole (Register key) = IsWholeKey key
IsWhole (Report reported) = IsWholeEvent reported
IsWhole (Look key) = Unit {0}
