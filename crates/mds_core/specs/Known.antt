-- What is known of a vehicle when a request about it is decided.
use Rattle.std.specs.Prelude.{◌≡◌, List, [], ◌∷◌, Option, Some, None, Bool, false}
use Rattle.mds_core.specs.declared.request.Request.{Request}
use Rattle.mds_core.specs.declared.request.Request.TheVariants.{Register, Report, Look}
use Rattle.mds_core.specs.declared.reply.Standing.{Standing}
use Rattle.mds_core.specs.declared.decision.Known.{Known}
use Rattle.mds_core.specs.History.{has_event, standing_of}

-- where a vehicle stands, if it is registered, by the accepted requests about it
abbrev pub standing_if : List Request → Option Standing
standing_if [] = None
standing_if (request ∷ rest) = Some (standing_of (request ∷ rest))

-- the request reports an event whose identifier is that of one of the vehicle's events
abbrev pub is_repeated : List Request → Request → Bool
is_repeated requests (Register key) = false
is_repeated requests (Report event) = has_event requests event.id
is_repeated requests (Look key) = false

-- this is what is known of a vehicle by the accepted requests about it, when a request about it is
-- decided
pub record AreKnown (requests : List Request) (request : Request) (known : Known) : Type 0 where
  pub standing : known.standing ≡ standing_if requests
  pub has_event : known.has_event ≡ is_repeated requests request
